use Rattle.qc_data.specs.Encoding.{enc}
use Rattle.qc_schema.proofs.Valued.{text_is}
use Rattle.qc_schema.proofs.encoded.datum_text.Goals as goal

pub returns-in-Ok : goal.returns-in-Ok
returns-in-Ok c =
    let e = c.in-Ok.ensures.events in
    text_is (enc c.args.d.now) e.0 _ e.1 e.2
