use Rattle.std.proofs.Common.{map}
use Rattle.qc_data.specs.Outcome.{bits64}
use Rattle.qc_rt.specs.Runtime.{value_on}
use Rattle.qc_rt.specs.Seen.{seen}
use Rattle.qc_runtime.proofs.Answered.{answered}
use Rattle.qc_runtime.proofs.applying.apply.Goals as goal

pub returns : goal.returns
returns c = answered (value_on bits64 c.args.f (map seen c.args.args.now)) c.value_on.result c.value_on.ensures
