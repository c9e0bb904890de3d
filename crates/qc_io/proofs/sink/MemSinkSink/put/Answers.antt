-- The front that was written is what fits.
use Rattle.std.proofs.Common.{◌-◌, vec_len, refl}
use Rattle.qc_io.proofs.sink.MemSinkSink.put.Goals as goal

pub returns-clause-err : goal.returns-clause-err
returns-clause-err c =
    (c.self.inside.room - vec_len c.self.inside.bytes, rw (c.add_fitting.ensures.added, ← c.self.view_is) refl)
