use Rattle.std.proofs.Common.{arith}
use Rattle.qc_grammar.specs.inner.Machine as spec
use Rattle.qc_grammar.proofs.Bodies.{no_step}
use Rattle.qc_grammar.proofs.table.Table.symbol.Goals as goal

pub returns-then-saturating_sub-lt2-clause-same : goal.returns-then-saturating_sub-lt2-clause-same
returns-then-saturating_sub-lt2-clause-same c = no_step (spec.table c.args.self) c.args.place (omega arith)
