-- Whether two records, of which the names rise, agree on the names that both have, told in one walk over both.
use Rattle.std.proofs.Common.{◌≡◌, ℕ, ◌+◌, ◌<◌, ◌≤◌, ◌⊎◌, inl, inr, Bool, true, false, List, [], ◌∷◌, length, drop}
use Rattle.std.proofs.Common.{get_or, Some, Less, Equal, Greater, refl, sym, subst, ap, ◌∙◌}
use Rattle.std.specs.Prelude.{◌&&◌}
use Rattle.std.specs.Ordering.{ordering_reverse}
use Rattle.std.proofs.lemmas.Cmp.{nat_list_cmp_total}
use Rattle.qc_containers.specs.Pairs.{lookup}
use Rattle.qc_containers.specs.Rising.{text_cmp, Above, Rising}
use Rattle.qc_data.specs.declared.data.Datum.{Datum}
use Rattle.qc_ops.specs.Records.{compatible, same_at}
use Rattle.qc_ops.specs.Sameness.{same}
use Rattle.qc_ops.proofs.Overlays.{unlike, lookup-above, Above-trans, Rising-drop, from_place, past}

abbrev Pairs : Type 0
Pairs = List (List ℕ × Datum)

-- ---- by how the first names compare

lookup-below : (n : List ℕ) (g : List ℕ × Datum) (gs : Pairs) → text_cmp g.0 n ≡ Less
    → lookup n (g ∷ gs) ≡ lookup n gs
lookup-below n g gs e = rw (unlike g.0 n Less e) refl

lookup-there : (n : List ℕ) (g : List ℕ × Datum) (gs : Pairs) → text_cmp g.0 n ≡ Equal → lookup n (g ∷ gs) ≡ Some g.1
lookup-there n g gs e = rw (unlike g.0 n Equal e) refl

compatible-above : (fs : Pairs) (g : List ℕ × Datum) (gs : Pairs) → Above g.0 fs
    → compatible fs (g ∷ gs) ≡ compatible fs gs
compatible-above [] g gs a = refl
compatible-above (f ∷ fs) g gs a =
    λ i. same_at f.1 (lookup-below f.0 g gs a.0 i) && compatible-above fs g gs a.1 i

compatible-none : (fs : Pairs) → compatible fs [] ≡ true
compatible-none [] = refl
compatible-none (f ∷ fs) = compatible-none fs

less : (f g : List ℕ × Datum) (fs gs : Pairs) → text_cmp f.0 g.0 ≡ Less → Rising (g ∷ gs)
    → compatible (f ∷ fs) (g ∷ gs) ≡ compatible fs (g ∷ gs)
less f g fs gs e s =
    ap (λ o. same_at f.1 o && compatible fs (g ∷ gs))
    (lookup-above f.0 (g ∷ gs) (e, Above-trans f.0 g.0 gs e s.0))

equal : (f g : List ℕ × Datum) (fs gs : Pairs) → text_cmp f.0 g.0 ≡ Equal
    → compatible (f ∷ fs) (g ∷ gs) ≡ (same f.1 g.1 && compatible fs (g ∷ gs))
equal f g fs gs e =
    ap (λ o. same_at f.1 o && compatible fs (g ∷ gs))
    (lookup-there f.0 g gs (nat_list_cmp_total.antisymm g.0 f.0 ∙ ap ordering_reverse e))

greater : (f g : List ℕ × Datum) (fs gs : Pairs) → text_cmp f.0 g.0 ≡ Greater → Rising (f ∷ fs)
    → compatible (f ∷ fs) (g ∷ gs) ≡ compatible (f ∷ fs) gs
greater f g fs gs e r =
    let up : text_cmp g.0 f.0 ≡ Less = nat_list_cmp_total.antisymm g.0 f.0 ∙ ap ordering_reverse e in
    compatible-above (f ∷ fs) g gs (up, Above-trans g.0 f.0 fs up r.0)

-- ---- two records gone through together, from places i and j on

module _ (fs gs : Pairs) (i j : ℕ) (f g : List ℕ × Datum) (r : Rising fs) (s : Rising gs) (lt : i < length fs)
    (lt' : j < length gs) (at : f ≡ get_or fs i f) (at' : g ≡ get_or gs j g)
    (so_far : compatible fs gs ≡ compatible (drop i fs) (drop j gs)) where
  mine : drop i fs ≡ f ∷ drop (i + 1) fs
  mine = from_place fs i f lt at

  theirs : drop j gs ≡ g ∷ drop (j + 1) gs
  theirs = from_place gs j g lt' at'

  both : compatible fs gs ≡ compatible (f ∷ drop (i + 1) fs) (g ∷ drop (j + 1) gs)
  both = so_far ∙ (λ k. compatible (mine k) (theirs k))

  pub past_less : text_cmp f.0 g.0 ≡ Less → compatible fs gs ≡ compatible (drop (i + 1) fs) (drop j gs)
  past_less e =
      both ∙ less f g (drop (i + 1) fs) (drop (j + 1) gs) e (subst Rising theirs (Rising-drop j gs s))
      ∙ ap (compatible (drop (i + 1) fs)) (sym theirs)

  pub past_greater : text_cmp f.0 g.0 ≡ Greater → compatible fs gs ≡ compatible (drop i fs) (drop (j + 1) gs)
  past_greater e =
      both ∙ greater f g (drop (i + 1) fs) (drop (j + 1) gs) e (subst Rising mine (Rising-drop i fs r))
      ∙ ap (λ l. compatible l (drop (j + 1) gs)) (sym mine)

  module _ (b : Bool) (e : text_cmp f.0 g.0 ≡ Equal) (tested : b ≡ same f.1 g.1) where
    by_test : compatible fs gs ≡ (b && compatible (drop (i + 1) fs) (drop j gs))
    by_test =
        both ∙ equal f g (drop (i + 1) fs) (drop (j + 1) gs) e
        ∙ (λ k. sym tested k && compatible (drop (i + 1) fs) (sym theirs k))

    pub past_same : b ≡ true → compatible fs gs ≡ compatible (drop (i + 1) fs) (drop j gs)
    past_same h = by_test ∙ ap (λ t. t && compatible (drop (i + 1) fs) (drop j gs)) h

    pub unlike_there : b ≡ false → compatible fs gs ≡ false
    unlike_there h = by_test ∙ ap (λ t. t && compatible (drop (i + 1) fs) (drop j gs)) h

-- where one record has ended no name is shared
pub all_past : (fs gs : Pairs) (i j : ℕ) → (length fs ≤ i) ⊎ (length gs ≤ j)
    → compatible fs gs ≡ compatible (drop i fs) (drop j gs) → compatible fs gs ≡ true
all_past fs gs i j (inl h) e = e ∙ ap (λ l. compatible l (drop j gs)) (past fs i h)
all_past fs gs i j (inr h) e = e ∙ ap (compatible (drop i fs)) (past gs j h) ∙ compatible-none (drop i fs)
