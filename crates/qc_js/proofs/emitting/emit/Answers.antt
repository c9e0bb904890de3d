use Rattle.qc_js.proofs.emitting.emit.Goals as goal

pub returns-clause-ok : goal.returns-clause-ok
returns-clause-ok g c = rw (← c.program.ensures.same) c.emit_whole.ensures.ok
