-- Joins, at each pair of kinds.
use Rattle.std.proofs.Common.{◌≡◌, ℕ, ◌+◌, ◌<◌, length, take, get_or, ◌++◌, [], ◌∷◌, Option, Some, None, List, refl}
use Rattle.std.proofs.Common.{sym, ap, ◌∙◌, Less, add-one}
use Rattle.std.proofs.Math.Seq.{take-suc}
use Rattle.qc_containers.specs.Pairs.{lookup}
use Rattle.qc_containers.specs.Rising.{Above, Rising, text_cmp}
use Rattle.qc_types.specs.declared.ty.Ty.{Ty, the_lemmas}
use Rattle.qc_types.specs.Rows.{names}
use Rattle.qc_types.specs.Joins.{joined, put_some, shared}
use Rattle.qc_types.proofs.RowLaws.{lookup-own}
use Rattle.qc_types.proofs.JoinLaws.{join_out, join_bottom}
use Rattle.qc_types.proofs.RisenRows.{Rising-take}

-- names that both have are some of the names, in order
above_put : (n m : List ℕ) (o : Option Ty) (r : List (List ℕ × Ty)) → text_cmp n m ≡ Less → Above n r
    → Above n (put_some m o r)
above_put n m None r e a = a
above_put n m (Some t) r e a = (e, a)

above_shared : {A B : Type 0} (j : A → B → Option Ty) (n : List ℕ) (rs ps : List (List ℕ × A)) (qs : List (List ℕ × B))
    → Above n rs → Above n (shared j (names rs) ps qs)
above_shared j n [] ps qs a = tt
above_shared j n (r ∷ rs) ps qs a =
    above_put n r.0 (joined j (lookup r.0 ps) (lookup r.0 qs)) (shared j (names rs) ps qs) a.0
    (above_shared j n rs ps qs a.1)

rising_put : (m : List ℕ) (o : Option Ty) (r : List (List ℕ × Ty)) → Above m r → Rising r → Rising (put_some m o r)
rising_put m None r a h = h
rising_put m (Some t) r a h = (a, h)

Rising-shared : {A B : Type 0} (j : A → B → Option Ty) (rs ps : List (List ℕ × A)) (qs : List (List ℕ × B)) → Rising rs
    → Rising (shared j (names rs) ps qs)
Rising-shared j [] ps qs r = tt
Rising-shared j (r ∷ rs) ps qs h =
    rising_put r.0 (joined j (lookup r.0 ps) (lookup r.0 qs)) (shared j (names rs) ps qs)
    (above_shared j r.0 rs ps qs h.0) (Rising-shared j rs ps qs h.1)

put_after : (n : List ℕ) (o : Option Ty) (xs ys : List (List ℕ × Ty)) → put_some n o (xs ++ ys) ≡ put_some n o xs ++ ys
put_after n None xs ys = refl
put_after n (Some t) xs ys = refl

shared_after : {A B : Type 0} (j : A → B → Option Ty) (ms ns : List (List ℕ)) (ps : List (List ℕ × A))
    (qs : List (List ℕ × B)) → shared j (ms ++ ns) ps qs ≡ shared j ms ps qs ++ shared j ns ps qs
shared_after j [] ns ps qs = refl
shared_after j (m ∷ ms) ns ps qs =
    ap (put_some m (joined j (lookup m ps) (lookup m qs))) (shared_after j ms ns ps qs)
    ∙ put_after m (joined j (lookup m ps) (lookup m qs)) (shared j ms ps qs) (shared j ns ps qs)

names_after : {A : Type 0} (xs ys : List (List ℕ × A)) → names (xs ++ ys) ≡ names xs ++ names ys
names_after [] ys = refl
names_after (x ∷ xs) ys = ap (λ l. x.0 ∷ l) (names_after xs ys)

module _ {A B : Type 0} (j : A → B → Option Ty) (ps : List (List ℕ × A)) (qs : List (List ℕ × B))
    (rs : List (List ℕ × A)) (k : ℕ) (p : List ℕ × A) where
  abbrev pub Upto : ℕ → List (List ℕ × Ty)
  Upto i = shared j (names (take i rs)) ps qs

  -- one name more
  pub one_more : (n : List ℕ) (y : Option B) (o : Option Ty) (row : List (List ℕ × Ty)) → row ≡ Upto k → rs ≡ ps
      → Rising rs → k < length rs → p ≡ get_or rs k p → n ≡ p.0 → y ≡ lookup n qs → o ≡ joined j (Some p.1) y
      → row ++ put_some p.0 o [] ≡ Upto (k + 1)
  one_more n y o row w e h lt ip en ey eo =
      let own : lookup p.0 ps ≡ Some p.1 = rw (← e) (lookup-own rs k p h lt ip) in
      let at : lookup p.0 qs ≡ y = ap (λ m. lookup m qs) (sym en) ∙ sym ey in
      let more : names (take (k + 1) rs) ≡ names (take k rs) ++ (p.0 ∷ []) =
      ap names (rw add-one (take-suc rs k p lt) ∙ ap (λ x. take k rs ++ (x ∷ [])) (sym ip))
      ∙ names_after (take k rs) (p ∷ []) in
      sym (ap (λ ns. shared j ns ps qs) more ∙ shared_after j (names (take k rs)) (p.0 ∷ []) ps qs
      ∙ rw (own, at, ← eo, ← w) refl)

  -- and the names still rise
  pub still_rises : Rising rs → Rising (Upto (k + 1))
  still_rises h = Rising-shared j (take (k + 1) rs) ps qs (Rising-take (k + 1) rs h)

pub ruleset by_layer = (the_lemmas, join_out, join_bottom)
