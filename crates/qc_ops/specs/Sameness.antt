-- Sameness as a test.
use Rattle.qc_data.specs.Outcome.{Outcome, Value}
use Rattle.qc_data.specs.declared.data.Datum.{Datum}
use Rattle.qc_data.specs.declared.data.Datum.TheVariants.{Bool as Truth}
pub use Rattle.qc_bags.specs.Copies.{copies, same}

-- eq: everything is taken
abbrev pub equality : Datum → Datum → Outcome Datum
equality a b = Value (Truth (same a b))
