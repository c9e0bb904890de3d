-- The stream took a further front of the rest.
use Rattle.std.proofs.Common.{◌++◌, take}
use Rattle.std.proofs.KnownBytes.{Appends-trans}
use Rattle.qc_io.proofs.Fronts.{further_front}
use Rattle.qc_io.proofs.stream.write_whole.Goals as goal

pub loop-rest-preserved : goal.loop-rest-preserved
loop-rest-preserved g c = (
  c.loop-rest.invariant.0 ++ take c.in-Ok.taken c.loop-rest.rest.now,
  further_front _ _ c.loop-rest.rest.now c.in-Ok.taken c.loop-rest.invariant.1,
  Appends-trans _ _ _ _ _ c.loop-rest.invariant.2 c.in-Ok.ensures.bytes,
)
