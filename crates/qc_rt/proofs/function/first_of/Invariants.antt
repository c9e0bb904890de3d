use Rattle.std.proofs.Common.{◌≡◌, drop}
use Rattle.qc_rt.specs.Table.{spelled_by}
use Rattle.qc_rt.proofs.function.first_of.Given as goal

abbrev pub invariant-loop-function : goal.invariant-loop-function
invariant-loop-function l = spelled_by l.word l.functions ≡ spelled_by l.word (drop l.function-index l.functions)
