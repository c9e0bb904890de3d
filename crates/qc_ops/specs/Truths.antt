-- Truth values, and comparisons that give them.
use Rattle.std.specs.Prelude.{not, ◌&&◌, ◌||◌}
use Rattle.std.specs.Ordering.{int_cmp, is_lt, is_le}
use Rattle.std.specs.declared.cmp.Ordering.{Ordering}
use Rattle.qc_data.specs.Outcome.{Outcome, Value, Halts, Stuck, and_then}
use Rattle.qc_containers.specs.Rising.{text_cmp}
use Rattle.qc_data.specs.declared.data.Datum.{Datum}
use Rattle.qc_data.specs.declared.data.Datum.TheOpen.{Datum-F}
use Rattle.qc_data.specs.declared.data.Datum.TheViews.{out-Datum}
use Rattle.qc_data.specs.declared.data.Datum.TheVariants.{Bool as Truth}
use Rattle.qc_ops.specs.Operands.{as_bool}

-- not
abbrev pub negation : Datum → Outcome Datum
negation a = and_then (as_bool a) (λ p. Value (Truth (not p)))

-- and, or: both are tested
abbrev pub conjunction : Datum → Datum → Outcome Datum
conjunction a b = and_then (as_bool a) (λ p. and_then (as_bool b) (λ q. Value (Truth (p && q))))

abbrev pub disjunction : Datum → Datum → Outcome Datum
disjunction a b = and_then (as_bool a) (λ p. and_then (as_bool b) (λ q. Value (Truth (p || q))))

-- by the outermost layers of two data: integers by value, texts by their bytes, which is by their code points
abbrev pub compared_at : Datum-F Datum → Datum-F Datum → Outcome Ordering
compared_at (Datum-F.Int m) (Datum-F.Int n) = Value (int_cmp m n)
compared_at (Datum-F.Text s) (Datum-F.Text t) = Value (text_cmp s t)
compared_at _ _ = Halts Stuck

-- how two integers or two texts compare
abbrev pub compared : Datum → Datum → Outcome Ordering
compared a b = compared_at (out-Datum a) (out-Datum b)

-- lt, le
abbrev pub is_below : Datum → Datum → Outcome Datum
is_below a b = and_then (compared a b) (λ o. Value (Truth (is_lt o)))

abbrev pub is_not_above : Datum → Datum → Outcome Datum
is_not_above a b = and_then (compared a b) (λ o. Value (Truth (is_le o)))
