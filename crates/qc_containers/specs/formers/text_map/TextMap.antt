-- `TextMap` as a type that may hold the type that holds it.
use Rattle.std.specs.Prelude.{ℕ, List, [], ◌∷◌, map}
use mathlib.Core.Path.{refl, sym}
use mathlib.Core.Former.{Former, this, const, pair, list, via}
use base.Stored.{code_map, coded_list, coded_ℕ, coded×, gcons}
use denote.RattleType.{RattleType}
use denote.HoleLaws.{Alike}
use denote.HolePlaces.{Recodes, struct_places, laid}
use denote.Hole.Fix.{over}
use denote.Param.Weighed.{Weighed, w_list, w_pair, w_const}
use denote.Model.Placed.{view_places}
use denote.Struct.Tuple.{Tuple, tuple_type}
use Rattle.qc_containers.specs.formers.shared_list.SharedList as shared
use Rattle.qc_containers.specs.contracts.text.Chars as key
use Rattle.qc_containers.specs.Rising.{on_value}
use Rattle.qc_containers.specs.inner.RisingParts.{Rising-prop, Rising-to, Rising-from}
use Rattle.qc_containers.specs.declared.text_map.TextMap.TheInside.{Inside}
use Rattle.qc_containers.specs.declared.text_map.TextMap.TheView.{view, invariant}
use Rattle.qc_containers.specs.contracts.text_map.TextMap as C
use Rattle.qc_containers.specs.contracts.text_map.TextMap.TheInside as I

abbrev entry : Former {0} → Former {0}
entry g = pair (const (List ℕ)) g

abbrev pub the_former : Former {0} → Former {0}
the_former g = list (entry g)

abbrev pub the_weighed : {g : Former {0}} → Weighed g → Weighed (the_former g)
the_weighed w = w_list (w_pair (w_const (List ℕ)) w)

pub the_empty : List (List ℕ × ⊥)
the_empty = []

abbrev fields : Former {0}
fields = via (shared.the_former (entry this)) Inside (λ X a. a.pairs) (λ X v. record { pairs = v }) (λ X a. refl)
    (λ X v. refl)

abbrev row_of : RattleType → RattleType
row_of R = Tuple (key.the_row ∷ R ∷ [])

module _ (R S : RattleType) (h : R.Denot → S.Denot) where
  entry_places : Alike R S h → Alike (row_of R) (row_of S) (on_value h)
  entry_places a =
      struct_places (tuple_type (key.the_row ∷ R ∷ [])) (tuple_type (key.the_row ∷ S ∷ [])) (λ n. n, (h, tt))
      (on_value h) (λ d. refl) refl
      ((refl, (λ n. refl, λ n. refl)), (laid R S h a, tt))

  pub the_places : Alike R S h → Alike (C.the_row R) (C.the_row S) ((the_former this).map R.Denot S.Denot h)
  the_places a =
      view_places fields (the_former this) view (λ X Y k u. refl) (λ X u. refl) R.Denot S.Denot h (C.the_row R).coded
      (C.the_row S).coded
      (invariant R.Denot) (invariant S.Denot) (λ u. Rising-prop u.pairs) (λ u. Rising-prop u.pairs)
      (λ u. Rising-to h u.pairs) (λ u. Rising-from h u.pairs)
      (over (I.the_row R)) (over (I.the_row S))
      (struct_places (I.the_type R) (I.the_type S) (map (on_value h), tt) _ (λ d. refl) refl
      (laid _ _ _ (shared.the_places (row_of R) (row_of S) (on_value h) (entry_places a)), tt))

  pub the_codes_placed : Recodes R S h → Recodes (C.the_row R) (C.the_row S) ((the_former this).map R.Denot S.Denot h)
  the_codes_placed e d =
      sym (code_map (coded× (coded_list coded_ℕ) R.coded).code (coded× (coded_list coded_ℕ) S.coded).code (on_value h)
      (λ x i. gcons ((coded_list coded_ℕ).code x.0) (sym (e x.1) i)) d)
