-- Texts: whether one is like a pattern, and texts joined.
use Rattle.std.specs.Prelude.{ℕ, List, ◌++◌}
use Rattle.qc_data.specs.Outcome.{Outcome, Value, and_then}
use Rattle.qc_data.specs.declared.data.Datum.{Datum}
use Rattle.qc_data.specs.declared.data.Datum.TheVariants.{Bool as Truth, Text}
use Rattle.qc_like.specs.Patterns.{is_like}
use Rattle.qc_ops.specs.Operands.{as_text}

-- like
abbrev pub likeness : List ℕ → Datum → Outcome Datum
likeness pattern a = and_then (as_text a) (λ text. Value (Truth (is_like pattern text)))

-- glue
abbrev pub joined : Datum → Datum → Outcome Datum
joined a b = and_then (as_text a) (λ s. and_then (as_text b) (λ t. Value (Text (s ++ t))))
