use Rattle.std.proofs.Common.{◌≡◌, false, drop}
use Rattle.qc_lex.specs.inner.Steps.{text_end}
use Rattle.qc_lex.proofs.quotes.text_end.Given as goal

abbrev pub invariant-loop-at : goal.invariant-loop-at
invariant-loop-at l = text_end l.quote l.closed l.at (drop l.at l.bytes) ≡ text_end l.quote false 0 l.bytes
