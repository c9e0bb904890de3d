-- What is gathered at a key is what was put there.
use Rattle.std.proofs.Common.{◌≡◌, Bool, true, false, cond, List, [], ◌∷◌, ◌++◌, append-nil, Option, Some, refl}
use Rattle.std.proofs.Common.{sym, ap, ◌∙◌}
use Rattle.std.specs.Prelude.{unwrap_or, IfOk, OnErr, Result, Ok, Err}
use Rattle.std.proofs.lemmas.Map.Steps.{set_value_same}
use Rattle.std.specs.Map.{lookup, set_value}
use Rattle.std.specs.Cmp.{eq_by_cmp_equiv}
use Rattle.qc_containers.proofs.Truth.{is_Equal}
use Rattle.qc_data.specs.Order.{cmp}
use Rattle.qc_data.specs.declared.data.Datum.{Datum}
use Rattle.qc_data.specs.declared.data.Json.{Json}
use Rattle.qc_data.proofs.Ties.{cmp_only}
use Rattle.qc_data.proofs.Total.{cmp_total}
use Rattle.qc_keys.specs.Counts.{equal}
use Rattle.qc_seen.specs.Gathering.{gathered}

abbrev Groups : Type 0
Groups = List (Datum × List Json)

-- it is what is looked up
gathered_is : (c : Datum) (es : Groups) → unwrap_or (lookup (equal c) es) [] ≡ gathered c es
gathered_is c [] = refl
gathered_is c (e ∷ es) =
    elim (equal c e.0) as (λ b. unwrap_or (cond b (Some e.1) (lookup (equal c) es)) [] ≡ cond b e.1 (gathered c es))
    [ true ↦ refl | false ↦ gathered_is c es ]

pub gathered_at : (c : Datum) (es groups : Groups) (o : Option (List Json)) → o ≡ lookup (equal c) es → es ≡ groups
    → unwrap_or o [] ≡ gathered c groups
gathered_at c es groups o e is = ap (λ p. unwrap_or p []) e ∙ gathered_is c es ∙ ap (gathered c) is

longer : (b : Bool) (was now more : List Json) (o : Option (List Json)) → (b ≡ true → was ≡ unwrap_or o [])
    → now ≡ was ++ more → unwrap_or (cond b (Some now) o) [] ≡ unwrap_or o [] ++ cond b more []
longer true was now more o h is = is ∙ ap (λ l. l ++ more) (h refl)
longer false was now more o h is = sym (append-nil (unwrap_or o []))

-- the key set to what it had and one more
pub one_more_at : (key : Datum) (item : Json) (es old new : Groups) (was now : List Json) → es ≡ old
    → was ≡ unwrap_or (lookup (equal key) es) [] → now ≡ was ++ item ∷ []
    → ((c : Datum) → lookup (equal c) new ≡ cond (equal key c) (Some now) (lookup (equal c) es)) → (c : Datum)
    → gathered c new ≡ gathered c old ++ cond (equal c key) (item ∷ []) []
one_more_at key item es old new was now same is next more c =
    let turn : equal key c ≡ equal c key = (eq_by_cmp_equiv cmp_total).symm key c in
    let there : equal key c ≡ true → was ≡ unwrap_or (lookup (equal c) es) [] =
    λ e. is ∙ ap (λ k. unwrap_or (lookup (equal k) es) []) (cmp_only key c (is_Equal (cmp key c) e)) in
    sym (gathered_is c new) ∙ ap (λ o. unwrap_or o []) (more c)
    ∙ longer (equal key c) was now (item ∷ []) (lookup (equal c) es) there next
    ∙ (λ i. gathered_at c es old (lookup (equal c) es) refl same i ++ cond (turn i) (item ∷ []) [])

-- what is shared is the same
pub shared_is : {E : Type 0} (r : Result (List Json) E) (xs ys : List Json) → IfOk r (λ same. same ≡ xs) → xs ≡ ys
    → IfOk r (λ same. same ≡ ys)
shared_is (Ok zs) xs ys h e = h ∙ e
shared_is (Err w) xs ys h e = tt

-- what is found at the key
pub found_at : (key : Datum) (es : Groups) (o : Option (List Json)) → o ≡ lookup (equal key) es
    → unwrap_or o [] ≡ unwrap_or (lookup (equal key) es) []
found_at key es o e = ap (λ p. unwrap_or p []) e

-- where what is found is written back, all is as it was
pub unwritten : {A E : Type 0} (r : Result A E) (key : Datum) (es old new : Groups) (was now : List Json) → es ≡ old
    → Some was ≡ lookup (equal key) es → now ≡ was → new ≡ set_value (equal key) es now → OnErr r (new ≡ old)
unwritten (Ok a) key es old new was now same found back written = tt
unwritten (Err e) key es old new was now same found back written =
    written ∙ ap (set_value (equal key) es) back ∙ set_value_same (equal key) es was (sym found) ∙ same
