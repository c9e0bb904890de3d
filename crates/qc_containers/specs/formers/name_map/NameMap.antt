-- `NameMap` as a type that may hold the type that holds it.
use Rattle.std.specs.Prelude.{◌≡◌, ℕ, List, [], ◌∷◌, map, ◌&&◌, Some}
use Rattle.std.specs.declared.cmp.Ord as ord
use Rattle.std.specs.declared.cmp.PartialEq as eq
use Rattle.std.specs.declared.cmp.PartialOrd as partial
use Rattle.std.specs.Cmp.Lexicographic.{pointwise, slice_cmp, slice_partial_cmp}
use Rattle.std.specs.Cmp.Derive.Mapped.{pointwise-map, lex_map, slice_partial_cmp-map}
use Rattle.std.specs.Ordering.{nat_cmp, ordering_then, partial_ordering_then}
use Rattle.std.specs.Str.{bytes_eq}
use mathlib.Core.Path.{refl, sym}
use mathlib.Core.Former.{Former, this, const, pair, list, via}
use base.Stored.{code_map, coded_list, coded_ℕ, coded×, gcons}
use denote.RattleType.{RattleType}
use denote.HoleLaws.{Alike}
use denote.HolePlaces.{Recodes, struct_places, laid}
use denote.Hole.Fix.{over}
use denote.Param.Weighed.{Weighed, w_list, w_pair, w_const}
use denote.Model.Placed.{view_places}
use denote.Struct.Tuple.{Tuple, tuple_type}
use Rattle.qc_containers.specs.formers.shared_list.SharedList as shared
use Rattle.qc_containers.specs.contracts.name.Name as key
use Rattle.qc_containers.specs.Rising.{on_value}
use Rattle.qc_containers.specs.inner.RisingParts.{Rising-prop, Rising-to, Rising-from}
use Rattle.qc_containers.specs.declared.name_map.NameMap.TheInside.{Inside}
use Rattle.qc_containers.specs.declared.name_map.NameMap.TheView.{view, invariant}
use Rattle.qc_containers.specs.contracts.name_map.NameMap as C
use Rattle.qc_containers.specs.contracts.name_map.NameMap.TheInside as I

abbrev entry : Former {0} → Former {0}
entry g = pair (const (List ℕ)) g

abbrev pub the_former : Former {0} → Former {0}
the_former g = list (entry g)

abbrev pub the_weighed : {g : Former {0}} → Weighed g → Weighed (the_former g)
the_weighed w = w_list (w_pair (w_const (List ℕ)) w)

pub the_empty : List (List ℕ × ⊥)
the_empty = []

abbrev fields : Former {0}
fields = via (shared.the_former (entry this)) Inside (λ X a. a.pairs) (λ X v. record { pairs = v }) (λ X a. refl)
    (λ X v. refl)

abbrev row_of : RattleType → RattleType
row_of R = Tuple (key.the_row ∷ R ∷ [])

module _ (R S : RattleType) (h : R.Denot → S.Denot) where
  entry_places : Alike R S h → Alike (row_of R) (row_of S) (on_value h)
  entry_places a =
      struct_places (tuple_type (key.the_row ∷ R ∷ [])) (tuple_type (key.the_row ∷ S ∷ [])) (λ n. n, (h, tt))
      (on_value h) (λ d. refl) refl
      ((refl, (λ n. refl, λ n. refl)), (laid R S h a, tt))

  pub the_places : Alike R S h → Alike (C.the_row R) (C.the_row S) ((the_former this).map R.Denot S.Denot h)
  the_places a =
      view_places fields (the_former this) view (λ X Y k u. refl) (λ X u. refl) R.Denot S.Denot h (C.the_row R).coded
      (C.the_row S).coded
      (invariant R.Denot) (invariant S.Denot) (λ u. Rising-prop u.pairs) (λ u. Rising-prop u.pairs)
      (λ u. Rising-to h u.pairs) (λ u. Rising-from h u.pairs)
      (over (I.the_row R)) (over (I.the_row S))
      (struct_places (I.the_type R) (I.the_type S) (map (on_value h), tt) _ (λ d. refl) refl
      (laid _ _ _ (shared.the_places (row_of R) (row_of S) (on_value h) (entry_places a)), tt))

  pub the_codes_placed : Recodes R S h → Recodes (C.the_row R) (C.the_row S) ((the_former this).map R.Denot S.Denot h)
  the_codes_placed e d =
      sym (code_map (coded× (coded_list coded_ℕ) R.coded).code (coded× (coded_list coded_ℕ) S.coded).code (on_value h)
      (λ x i. gcons ((coded_list coded_ℕ).code x.0) (sym (e x.1) i)) d)

module _ (X Y : Type 0) (h : X → Y) where
  pub the_eq_natural : (V : eq.Ghosts Y) (m n : List (List ℕ × X))
      → pointwise (λ p q. bytes_eq p.0 q.0 && V.eq p.1 q.1) (map (on_value h) m) (map (on_value h) n)
      ≡ pointwise (λ p q. bytes_eq p.0 q.0 && V.eq (h p.1) (h q.1)) m n
  the_eq_natural V m n = pointwise-map (on_value h) (λ p q. bytes_eq p.0 q.0 && V.eq p.1 q.1) m n

  pub the_partial_cmp_natural : (V : partial.Ghosts Y) (V' : eq.Ghosts Y) (m n : List (List ℕ × X))
      → slice_partial_cmp (λ p q. partial_ordering_then (Some (slice_cmp nat_cmp p.0 q.0)) (V.partial_cmp p.1 q.1))
      (map (on_value h) m) (map (on_value h) n)
      ≡ slice_partial_cmp (λ p q. partial_ordering_then (Some (slice_cmp nat_cmp p.0 q.0))
      (V.partial_cmp (h p.1) (h q.1))) m n
  the_partial_cmp_natural V V' m n =
      slice_partial_cmp-map (on_value h)
      (λ p q. partial_ordering_then (Some (slice_cmp nat_cmp p.0 q.0)) (V.partial_cmp p.1 q.1)) m n

  pub the_cmp_natural : (V : ord.Ghosts Y) (V' : eq.Ghosts Y) (V'' : partial.Ghosts Y) (m n : List (List ℕ × X))
      → slice_cmp (λ p q. ordering_then (slice_cmp nat_cmp p.0 q.0) (V.cmp p.1 q.1)) (map (on_value h) m)
      (map (on_value h) n)
      ≡ slice_cmp (λ p q. ordering_then (slice_cmp nat_cmp p.0 q.0) (V.cmp (h p.1) (h q.1))) m n
  the_cmp_natural V V' V'' m n =
      lex_map (on_value h) (λ p q. ordering_then (slice_cmp nat_cmp p.0 q.0) (V.cmp p.1 q.1)) m n
