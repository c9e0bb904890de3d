-- What the encoding is at each kind, and that it keeps integers, collections and what operators make.
use Rattle.std.proofs.Common.{◌≡◌, ℕ, ℤ, Bool, List, [], ◌∷◌, ◌++◌, map, rules, refl, sym, ap, ◌∙◌}
use Rattle.std.specs.List.{AllByRecursion}
use Rattle.std.specs.Prelude.{codes}
use Rattle.qc_data.specs.declared.data.Datum.{Datum}
use Rattle.qc_data.specs.declared.data.Datum.TheOpen.{Datum-F}
use Rattle.qc_data.specs.declared.data.Datum.TheViews.{out-Datum, roll-Datum}
use Rattle.qc_data.specs.declared.data.Datum.TheFolds.{map-Datum, fold-roll-Datum, fold_out-Datum}
use Rattle.qc_data.specs.declared.data.Datum.TheVariants as datum
use Rattle.qc_data.specs.declared.data.Json.{Json}
use Rattle.qc_data.specs.declared.data.Json.TheViews.{out-Json, the_lemmas}
use Rattle.qc_data.specs.declared.data.Json.TheVariants as json
use Rattle.qc_data.specs.Outcome.{Mode, Outcome, Value, Halts, and_then, alone, each, bound}
use Rattle.qc_data.specs.Kinds.{as_int, as_coll, json_int, json_array, int_at, coll_at, number_at, array_at, made}
use Rattle.qc_data.specs.Kinds.{json_made}
use Rattle.qc_data.specs.Encoding.{enc, enc_step, encoded}
use Rattle.qc_containers.specs.Rising.{on_value}

pub enc-roll : (x : Datum-F Datum) → enc (roll-Datum x) ≡ enc_step (map-Datum Datum Json enc x)
enc-roll x = fold-roll-Datum Json enc_step x

enc_layers : (d : Datum) → enc d ≡ enc_step (map-Datum Datum Json enc (out-Datum d))
enc_layers d = fold_out-Datum Json enc_step d

pub enc-Unit : enc datum.Unit ≡ json.Null
enc-Unit = ap enc (sym datum.rolls-Unit) ∙ enc-roll Datum-F.Unit

pub enc-Bool : (b : Bool) → enc (datum.Bool b) ≡ json.Bool b
enc-Bool b = ap enc (sym (datum.rolls-Bool b)) ∙ enc-roll (Datum-F.Bool b)

pub enc-Int : (n : ℤ) → enc (datum.Int n) ≡ json.Int n
enc-Int n = ap enc (sym (datum.rolls-Int n)) ∙ enc-roll (Datum-F.Int n)

pub enc-Text : (text : List ℕ) → enc (datum.Text text) ≡ json.Text text
enc-Text text = ap enc (sym (datum.rolls-Text text)) ∙ enc-roll (Datum-F.Text text)

pub enc-Coll : (items : List Datum) → enc (datum.Coll items) ≡ json.Array (map enc items)
enc-Coll items = ap enc (sym (datum.rolls-Coll items)) ∙ enc-roll (Datum-F.Coll items)

pub enc-Rec : (fields : List (List ℕ × Datum)) → enc (datum.Rec fields) ≡ json.Object (map (on_value enc) fields)
enc-Rec fields = ap enc (sym (datum.rolls-Rec fields)) ∙ enc-roll (Datum-F.Rec fields)

pub enc-Left : (d : Datum) → enc (datum.Left d) ≡ json.Object ((codes "$left", enc d) ∷ [])
enc-Left d = ap enc (sym (datum.rolls-Left d)) ∙ enc-roll (Datum-F.Left d)

pub enc-Right : (d : Datum) → enc (datum.Right d) ≡ json.Object ((codes "$right", enc d) ∷ [])
enc-Right d = ap enc (sym (datum.rolls-Right d)) ∙ enc-roll (Datum-F.Right d)

pub enc-Brand : (name : List ℕ) (d : Datum)
    → enc (datum.Brand name d) ≡ json.Object ((codes "$class", json.Text name) ∷ (codes "$data", enc d) ∷ [])
enc-Brand name d = ap enc (sym (datum.rolls-Brand name d)) ∙ enc-roll (Datum-F.Brand name d)

number_at-enc : (x : Datum-F Datum) → number_at (out-Json (enc_step (map-Datum Datum Json enc x))) ≡ int_at x
number_at-enc Datum-F.Unit = search (rules, the_lemmas)
number_at-enc (Datum-F.Bool b) = search (rules, the_lemmas)
number_at-enc (Datum-F.Int n) = search (rules, the_lemmas)
number_at-enc (Datum-F.Text s) = search (rules, the_lemmas)
number_at-enc (Datum-F.Coll xs) = search (rules, the_lemmas)
number_at-enc (Datum-F.Rec fs) = search (rules, the_lemmas)
number_at-enc (Datum-F.Left d) = search (rules, the_lemmas)
number_at-enc (Datum-F.Right d) = search (rules, the_lemmas)
number_at-enc (Datum-F.Brand n d) = search (rules, the_lemmas)

-- the encoding is an integer where the datum is
pub json_int-enc : (d : Datum) → json_int (enc d) ≡ as_int d
json_int-enc d = rw (enc_layers d) (number_at-enc (out-Datum d))

array_at-enc : (x : Datum-F Datum) → array_at (out-Json (enc_step (map-Datum Datum Json enc x)))
    ≡ and_then (coll_at x) (λ xs. Value (map enc xs))
array_at-enc Datum-F.Unit = search (rules, the_lemmas)
array_at-enc (Datum-F.Bool b) = search (rules, the_lemmas)
array_at-enc (Datum-F.Int n) = search (rules, the_lemmas)
array_at-enc (Datum-F.Text s) = search (rules, the_lemmas)
array_at-enc (Datum-F.Coll xs) = search (rules, the_lemmas)
array_at-enc (Datum-F.Rec fs) = search (rules, the_lemmas)
array_at-enc (Datum-F.Left d) = search (rules, the_lemmas)
array_at-enc (Datum-F.Right d) = search (rules, the_lemmas)
array_at-enc (Datum-F.Brand n d) = search (rules, the_lemmas)

-- the encoding is an array where the datum is a collection, of the members' encodings
pub json_array-enc : (d : Datum) → json_array (enc d) ≡ and_then (as_coll d) (λ xs. Value (map enc xs))
json_array-enc d = rw (enc_layers d) (array_at-enc (out-Datum d))

made_at : (o : Outcome ℤ) → and_then o (λ n. Value (json.Int n)) ≡ encoded (and_then o (λ n. Value (datum.Int n)))
made_at (Value n) = ap Value (sym (enc-Int n))
made_at (Halts why) = refl

-- an integer that is made, encoded
pub json_made-enc : (m : Mode) (n : ℤ) → json_made m n ≡ encoded (made m n)
json_made-enc m n = made_at (bound m n)

-- ---- the outcomes of members, encoded

first_then : (o : Outcome Datum) (rest : Outcome (List Json)) (later : Outcome (List Datum))
    → rest ≡ and_then later (λ ds. Value (map enc ds))
    → and_then (alone (encoded o)) (λ ys. and_then rest (λ zs. Value (ys ++ zs)))
    ≡ and_then (and_then (alone o) (λ ys. and_then later (λ zs. Value (ys ++ zs)))) (λ ds. Value (map enc ds))
first_then (Value d) rest (Value ds) h = rw h refl
first_then (Value d) rest (Halts why) h = rw h refl
first_then (Halts why) rest later h = refl

pub each-encoded : {A : Type 0} (f : A → Outcome Json) (g : A → Outcome Datum) (xs : List A)
    → AllByRecursion (λ x. f x ≡ encoded (g x)) xs → each f xs ≡ and_then (each g xs) (λ ds. Value (map enc ds))
each-encoded f g [] h = refl
each-encoded f g (x ∷ xs) h = rw h.0 (first_then (g x) (each f xs) (each g xs) (each-encoded f g xs h.1))
