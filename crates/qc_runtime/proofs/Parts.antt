-- Class's values and sides, by the members of objects.
use Rattle.std.proofs.Common.{◌≡◌, ℕ, List, ap, ◌∙◌}
use Rattle.std.specs.Prelude.{Result, Ok, Err}
use Rattle.qc_data.specs.Outcome.{and_then}
use Rattle.qc_data.specs.declared.data.Json.{Json}
use Rattle.qc_data.specs.declared.data.Json.TheVariants as J
use Rattle.qc_data.specs.declared.halt.Halt.{Halt}
use Rattle.qc_ops.specs.Operands.{as_brand}
use Rattle.qc_rt.specs.Parameters.{as_side}
use Rattle.qc_rt.specs.Seen.{seen}
use Rattle.qc_runtime.specs.declared.sides.Class.{Class}
use Rattle.qc_runtime.specs.declared.sides.Side.{Side}
use Rattle.qc_runtime.specs.inner.Giving.{GivesClass, GivesClassIn, GivesSide, GivesSideIn}
use Rattle.qc_rt.specs.JsonKinds.{class_in, json_class, json_side, members_at, side_in}
use Rattle.qc_rt.proofs.SeenLaws.{as_brand-seen, as_side-seen, content_seen, on_side_seen}

abbrev Raw : Type 0
Raw = List (List ℕ × Json)

class_at : (j : Json) (ms : Raw) → j ≡ J.Object ms → json_class j ≡ class_in ms
class_at j ms is = ap json_class is ∙ ap (λ x. and_then (members_at x) class_in) (J.outs-Object ms)

-- the class's value that an object is
pub class_gives : (j : Json) (ms : Raw) (r : Result Class Halt) → j ≡ J.Object ms → GivesClassIn (class_in ms) r
    → GivesClass (as_brand (seen j)) r
class_gives j ms (Ok c) is h = as_brand-seen j ∙ ap (λ o. and_then o content_seen) (class_at j ms is ∙ h)
class_gives j ms (Err e) is h = λ n. as_brand-seen j ∙ ap (λ o. and_then o content_seen) (class_at j ms is ∙ h n)

side_at : (j : Json) (ms : Raw) → j ≡ J.Object ms → json_side j ≡ side_in ms
side_at j ms is = ap json_side is ∙ ap (λ x. and_then (members_at x) side_in) (J.outs-Object ms)

-- what an object has on a side
pub side_gives : (j : Json) (ms : Raw) (r : Result Side Halt) → j ≡ J.Object ms → GivesSideIn (side_in ms) r
    → GivesSide (as_side (seen j)) r
side_gives j ms (Ok s) is h = as_side-seen j ∙ ap (λ o. and_then o on_side_seen) (side_at j ms is ∙ h)
side_gives j ms (Err e) is h = λ n. as_side-seen j ∙ ap (λ o. and_then o on_side_seen) (side_at j ms is ∙ h n)
