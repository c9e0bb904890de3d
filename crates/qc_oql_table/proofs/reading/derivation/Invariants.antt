use Rattle.qc_oql_table.specs.inner.Notes.{notes}
use Rattle.qc_oql_table.proofs.reading.derivation.Given as goal

abbrev pub ghost-read : goal.ghost-read
ghost-read a = notes
