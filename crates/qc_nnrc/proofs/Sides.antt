-- A value that is on no side.
use Rattle.std.proofs.Common.{◌≡◌, ℕ, ap, ◌∙◌}
use Rattle.qc_data.specs.Outcome.{Mode, Outcome, Why, Value, Halts, and_then}
use Rattle.qc_data.specs.declared.data.Datum.{Datum}
use Rattle.qc_types.specs.Schemas.{WorldOf}
use Rattle.qc_ops.specs.Sides.{by_side}
use Rattle.qc_nnrc.specs.declared.tree.Nnrc.{Nnrc}
use Rattle.qc_nnrc.specs.declared.tree.Nnrc.TheVariants as tree
use Rattle.qc_nnrc.specs.Meaning.{Values, Meaning, bound_to, form, nnrc}
use Rattle.qc_nnrc.proofs.TreeForms.{of-Either}

-- where neither body is evaluated
pub either_halts : (m : Mode) (w : WorldOf) (e a : Nnrc) (x : ℕ) (b : Nnrc) (y : ℕ) (c : Nnrc) (f : Values) (v : Datum)
    (why : Why) → e ≡ tree.Either a x b y c → nnrc m w a f ≡ Value v
    → by_side (bound_to x (nnrc m w b) f) (bound_to y (nnrc m w c) f) v ≡ Halts why → nnrc m w e f ≡ Halts why
either_halts m w e a x b y c f v why is value none =
    ap (λ (t : Nnrc). nnrc m w t f) is ∙ ap (λ (p : Meaning). p f) (of-Either Meaning (form m w) a x b y c)
    ∙ ap (λ (o : Outcome Datum). and_then o (by_side (bound_to x (nnrc m w b) f) (bound_to y (nnrc m w c) f))) value
    ∙ none
