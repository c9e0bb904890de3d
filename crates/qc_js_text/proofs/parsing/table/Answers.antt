use Rattle.std.proofs.Common.{refl}
use Rattle.qc_grammar.specs.inner.Certificate.{rules}
use Rattle.qc_js_text.specs.Table.{grammar}
use Rattle.qc_js_text.specs.inner.Notes.{notes}
use Rattle.qc_js_text.proofs.parsing.table.Goals as goal

pub returns-clause-same : goal.returns-clause-same
unfolding rules grammar notes
returns-clause-same c = refl

pub returns-clause-exact : goal.returns-clause-exact
unfolding rules grammar notes
returns-clause-exact c = refl
