-- The mean of an array's integers, by their total and number.
use Rattle.std.proofs.Common.{◌≡◌, ◌≢◌, ℕ, ℤ, pos, int_div, List, map, length, Some, sym, ap, ◌∙◌}
use Rattle.std.proofs.lemmas.List.{length-map}
use Rattle.qc_data.specs.Kinds.{as_coll, as_int, total, made}
use Rattle.qc_data.specs.Outcome.{Mode, Value, and_then, each}
use Rattle.qc_data.specs.declared.data.Json.{Json}
use Rattle.qc_ops.specs.Numbers.{average}
use Rattle.qc_ops.specs.Operands.{optional}
use Rattle.qc_ops.proofs.Means.{average_is}
use Rattle.qc_rt.specs.Parameters.{one, the_only}
use Rattle.qc_rt.specs.Seen.{seen}

-- the average of an array that is not empty
pub average_seen : (m : Mode) (args : List Json) (a : Json) (items xs : List Json) (t : ℤ) (n : ℕ)
    → the_only (map seen args) ≡ Value (seen a) → as_coll (seen a) ≡ Value (map seen items) → xs ≡ items
    → n ≡ length items → n ≢ 0 → and_then (each as_int (map seen xs)) (λ ns. Value (total ns)) ≡ Value t
    → one (average m) (map seen args) ≡ and_then (made m (int_div t (pos n))) (λ d. Value (optional (Some d)))
average_seen m args a items xs t n only coll same count some e =
    ap (λ o. and_then o (average m)) only
    ∙ average_is m (seen a) (map seen items) (map seen xs) t n coll (ap (map seen) same)
    (count ∙ sym (length-map items seen)) some e
