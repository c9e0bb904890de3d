use Rattle.std.proofs.Common.{◌≡◌, [], length}
use Rattle.qc_js_text.specs.inner.Actions.{run}
use Rattle.qc_js_text.proofs.parsing.program.Given as goal

abbrev pub invariant-loop-event : goal.invariant-loop-event
invariant-loop-event l = run l.lexemes l.fn.events [] ≡ run l.lexemes l.rest l.stack

abbrev pub decreases-loop-event : goal.decreases-loop-event
decreases-loop-event l = length l.rest
