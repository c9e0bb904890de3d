-- What a tally has is what was counted.
use Rattle.std.proofs.Common.{◌≡◌, ℕ, ◌+◌, Bool, true, false, cond, List, [], ◌∷◌, ◌++◌, Option, Some, refl, sym}
use Rattle.std.proofs.Common.{ap, ◌∙◌, add-zero}
use Rattle.std.specs.Prelude.{count_by, unwrap_or}
use Rattle.std.specs.Map.{lookup}
use Rattle.std.specs.Cmp.{eq_by_cmp_equiv}
use Rattle.qc_containers.proofs.Truth.{is_Equal}
use Rattle.qc_data.specs.Order.{cmp}
use Rattle.qc_data.proofs.Ties.{cmp_only}
use Rattle.qc_data.proofs.Total.{cmp_total}
use Rattle.std.proofs.lemmas.List.Sums.{fold-append}
use Rattle.qc_data.specs.declared.data.Datum.{Datum}
use Rattle.qc_keys.specs.Counts.{count, equal, Tallies}

-- one more of a list
pub counted_more : (test : Datum → Bool) (xs : List Datum) (x : Datum)
    → count_by test (xs ++ x ∷ []) ≡ count_by test xs + cond (test x) 1 0
counted_more test xs x = fold-append (λ (n : ℕ) c. n + cond (test c) 1 0) 0 xs (x ∷ [])

pub Tallies-none : Tallies [] []
Tallies-none c = refl

-- one more key counted
pub Tallies-more : (old new : List (Datum × ℕ)) (keys : List Datum) (key : Datum) → Tallies old keys
    → ((c : Datum) → count c new ≡ count c old + cond (equal c key) 1 0) → Tallies new (keys ++ key ∷ [])
Tallies-more old new keys key so_far more c =
    more c ∙ ap (λ (n : ℕ). n + cond (equal c key) 1 0) (so_far c) ∙ sym (counted_more (equal c) keys key)

-- what a tally has is what is looked up in it
pub count_is : (c : Datum) (es : List (Datum × ℕ)) → unwrap_or (lookup (equal c) es) 0 ≡ count c es
count_is c [] = refl
count_is c (e ∷ es) =
    elim (equal c e.0) as (λ b. unwrap_or (cond b (Some e.1) (lookup (equal c) es)) 0 ≡ cond b e.1 (count c es))
    [ true ↦ refl | false ↦ count_is c es ]

pub count_at : (c : Datum) (es tally : List (Datum × ℕ)) (o : Option ℕ) → o ≡ lookup (equal c) es → es ≡ tally
    → unwrap_or o 0 ≡ count c tally
count_at c es tally o e is = ap (λ p. unwrap_or p 0) e ∙ count_is c es ∙ ap (count c) is

-- a key set to one more than it had
raised : (b : Bool) (n m : ℕ) (o : Option ℕ) → (b ≡ true → n ≡ unwrap_or o 0) → m ≡ n + 1
    → unwrap_or (cond b (Some m) o) 0 ≡ unwrap_or o 0 + cond b 1 0
raised true n m o h is = is ∙ ap (λ k. k + 1) (h refl)
raised false n m o h is = sym (add-zero (unwrap_or o 0))

pub one_more : (key : Datum) (es old new : List (Datum × ℕ)) (n m : ℕ) → es ≡ old → n ≡ count key old → m ≡ n + 1
    → ((c : Datum) → lookup (equal c) new ≡ cond (equal key c) (Some m) (lookup (equal c) es)) → (c : Datum)
    → count c new ≡ count c old + cond (equal c key) 1 0
one_more key es old new n m same is next more c =
    let turn : equal key c ≡ equal c key = (eq_by_cmp_equiv cmp_total).symm key c in
    let there : equal key c ≡ true → n ≡ unwrap_or (lookup (equal c) es) 0 =
    λ e. is ∙ ap (count key) (sym same) ∙ ap (λ k. count k es) (cmp_only key c (is_Equal (cmp key c) e))
    ∙ sym (count_is c es) in
    sym (count_is c new) ∙ ap (λ o. unwrap_or o 0) (more c) ∙ raised (equal key c) n m (lookup (equal c) es) there next
    ∙ (λ i. count_at c es old (lookup (equal c) es) refl same i + cond (turn i) 1 0)
