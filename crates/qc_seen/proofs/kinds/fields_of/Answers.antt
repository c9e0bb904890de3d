use Rattle.qc_seen.proofs.Plain.{plain_gives}
use Rattle.qc_seen.proofs.kinds.fields_of.Goals as goal

pub returns-in-Object : goal.returns-in-Object
returns-in-Object c =
    plain_gives c.args.j.now c.in-Object.members c.plain.result c.in-Object.is c.plain.ensures
