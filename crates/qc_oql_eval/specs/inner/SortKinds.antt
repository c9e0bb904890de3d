-- Kinds of values that rows may be ordered by.
use Rattle.std.specs.Prelude.{Bool}
use Rattle.qc_data.specs.Kinds.{as_int}
use Rattle.qc_data.specs.declared.data.Datum.{Datum}
use Rattle.qc_ops.specs.Operands.{as_bool, as_text}
use Rattle.qc_ops.specs.Sorting.{has_value}
use Rattle.qc_oql_eval.specs.declared.ordering.Kind.{Kind}
use Rattle.qc_oql_eval.specs.declared.ordering.Kind.TheVariants as kind

-- the datum is of the kind
abbrev pub is_of : Kind → Datum → Bool
is_of kind.Int d = has_value (as_int d)
is_of kind.Text d = has_value (as_text d)
is_of kind.Bool d = has_value (as_bool d)
