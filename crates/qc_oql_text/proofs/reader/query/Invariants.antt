use Rattle.std.proofs.Common.{◌≡◌, [], length}
use Rattle.qc_lex.specs.Words.{lexemes}
use Rattle.qc_oql_table.specs.Actions.{run}
use Rattle.qc_oql_text.proofs.reader.query.Given as goal

abbrev pub invariant-loop-event : goal.invariant-loop-event
invariant-loop-event l = run (lexemes l.words) l.fn.events [] ≡ run (lexemes l.words) l.rest l.stack

abbrev pub decreases-loop-event : goal.decreases-loop-event
decreases-loop-event l = length l.rest
