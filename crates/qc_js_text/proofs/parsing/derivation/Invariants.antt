use Rattle.qc_js_text.specs.inner.Notes.{notes}
use Rattle.qc_js_text.proofs.parsing.derivation.Given as goal

abbrev pub ghost-read : goal.ghost-read
ghost-read a = notes
