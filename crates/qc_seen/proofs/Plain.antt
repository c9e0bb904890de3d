-- The members of plain objects, as private functions answer them.
use Rattle.std.proofs.Common.{◌≡◌, ℕ, List, sym, ap, ◌∙◌, Result, Ok, Err}
use Rattle.std.specs.Borrow.{Bor}
use Rattle.qc_data.specs.Outcome.{Value, Halts, and_then}
use Rattle.qc_data.specs.declared.data.Datum.TheVariants as D
use Rattle.qc_data.specs.declared.data.Json.{Json}
use Rattle.qc_data.specs.declared.data.Json.TheVariants as J
use Rattle.qc_data.specs.declared.halt.Halt.{Halt}
use Rattle.std.specs.Prelude.{not}
use Rattle.qc_ops.specs.Operands.{as_rec, only_if, rec_at}
use Rattle.qc_rt.specs.Seen.{fields_seen, has_marker, seen}
use Rattle.qc_seen.specs.Giving.{GivesFieldsRef}
use Rattle.qc_seen.specs.inner.Plain.{GivesPlain}
use Rattle.qc_rt.proofs.SeenLaws.{object_fields, seen-Object, seen-plain}

-- the members of an object, where none of their names is a marker
pub plain_gives : (j : Json) (ms : List (List ℕ × Json)) (r : Result (Bor (List (List ℕ × Json))) Halt)
    → j ≡ J.Object ms
    → GivesPlain ms r → GivesFieldsRef (as_rec (seen j)) r
plain_gives j ms (Ok r) is h = (
  ap as_rec (ap seen is ∙ seen-plain ms h.1) ∙ ap rec_at (D.outs-Rec (fields_seen ms))
      ∙ ap (λ l. Value (fields_seen l)) (sym h.0),
  ap has_marker h.0 ∙ h.1,
)
plain_gives j ms (Err e) is h = λ n.
    ap as_rec (ap seen is ∙ seen-Object ms) ∙ object_fields ms
    ∙ (λ k. and_then (only_if (not ((h n).0 k)) (Value ms)) (λ ms. Value (fields_seen ms)))
    ∙ ap (λ w. Halts w) (sym (h n).1)
