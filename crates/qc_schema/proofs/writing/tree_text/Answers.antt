use Rattle.qc_schema.proofs.Valued.{text_is}
use Rattle.qc_schema.proofs.writing.tree_text.Goals as goal

pub returns-in-Ok : goal.returns-in-Ok
returns-in-Ok c =
    let e = c.in-Ok.ensures.events in
    text_is c.args.j.now e.0 _ e.1 e.2
