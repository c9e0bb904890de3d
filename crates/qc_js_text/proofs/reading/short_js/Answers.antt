use Rattle.qc_js_text.proofs.Answered.{bad_answer}
use Rattle.qc_js_text.proofs.reading.short_js.Goals as goal

pub returns-in-Ok-BadScan : goal.returns-in-Ok-BadScan
returns-in-Ok-BadScan c =
    bad_answer c.args.bytes.now c.in-Ok-BadScan.field-0 c.in-Ok-BadScan.at c.in-Ok-BadScan.field-0-is
    c.in-Ok-BadScan.ensures c.requires.short
