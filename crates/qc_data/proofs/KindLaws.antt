-- What the kinds of values are at each kind, and that encoding keeps them.
use Rattle.std.proofs.Common.{◌≡◌, ℕ, ℤ, List, rules, refl}
use Rattle.qc_data.specs.declared.data.Datum.{Datum}
use Rattle.qc_data.specs.declared.data.Datum.TheOpen.{Datum-F}
use Rattle.qc_data.specs.declared.data.Datum.TheViews.{out-Datum, the_lemmas}
use Rattle.qc_data.specs.declared.data.Datum.TheVariants as datum
use Rattle.qc_data.specs.declared.data.Json.{Json}
use Rattle.qc_data.specs.declared.data.Json.TheOpen.{Json-F}
use Rattle.qc_data.specs.declared.data.Json.TheViews as json_views
use Rattle.qc_data.specs.declared.data.Json.TheViews.{out-Json}
use Rattle.qc_data.specs.declared.data.Json.TheVariants as json
use Rattle.qc_data.specs.Outcome.{any_size, within, Value, bound, Agrees}
use Rattle.qc_data.proofs.Outcomes.{agrees_then, agrees_bound}
use Rattle.qc_data.specs.Kinds.{as_int, as_coll, json_int, json_array, made, json_made}

pub as_int-Int : (n : ℤ) → as_int (datum.Int n) ≡ Value n
as_int-Int n = rw (datum.outs-Int n) refl

pub out-Coll : (xs : List Datum) → out-Datum (datum.Coll xs) ≡ Datum-F.Coll xs
out-Coll xs = search (rules, the_lemmas)

pub out-Rec : (fields : List (List ℕ × Datum)) → out-Datum (datum.Rec fields) ≡ Datum-F.Rec fields
out-Rec fields = search (rules, the_lemmas)

pub as_coll-Coll : (xs : List Datum) → as_coll (datum.Coll xs) ≡ Value xs
as_coll-Coll xs = rw (out-Coll xs) refl

pub json_int-Int : (n : ℤ) → json_int (json.Int n) ≡ Value n
json_int-Int n = rw (json.outs-Int n) refl

pub out-Array : (js : List Json) → out-Json (json.Array js) ≡ Json-F.Array js
out-Array js = search (rules, json_views.the_lemmas)

pub out-Object : (members : List (List ℕ × Json)) → out-Json (json.Object members) ≡ Json-F.Object members
out-Object members = search (rules, json_views.the_lemmas)

pub json_array-Array : (js : List Json) → json_array (json.Array js) ≡ Value js
json_array-Array js = rw (out-Array js) refl

-- ---- what operators make agrees between modes

pub agrees_made : (low high n : ℤ) → Agrees (made any_size n) (made (within low high) n)
agrees_made low high n =
    agrees_then (bound any_size n) (bound (within low high) n) (λ k. Value (datum.Int k)) (λ k. Value (datum.Int k))
    (agrees_bound low high n) (λ k. refl)

pub agrees_json_made : (low high n : ℤ) → Agrees (json_made any_size n) (json_made (within low high) n)
agrees_json_made low high n =
    agrees_then (bound any_size n) (bound (within low high) n) (λ k. Value (json.Int k)) (λ k. Value (json.Int k))
    (agrees_bound low high n) (λ k. refl)
