use Rattle.std.proofs.Common.{sym, ◌∙◌, subst}
use Rattle.qc_js_text.specs.Reading.{IsRead}
use Rattle.qc_js_text.proofs.Answered.{is_read, bad_rules}
use Rattle.qc_js_text.proofs.reading.checked.Goals as goal

pub returns-in-Ok-true : goal.returns-in-Ok-true
returns-in-Ok-true c =
    let read =
    is_read c.args.bytes.now c.args.lexemes.now c.args.program c.requires.scanned c.requires.short c.requires.shallow
    c.requires.parsed (sym c.in-Ok-true.ensures ∙ c.in-Ok-true.field-0-test) c.held.ensures in
    subst (λ p. IsRead c.args.bytes.now p) (sym c.of.ensures) read

pub returns-in-Ok-false : goal.returns-in-Ok-false
returns-in-Ok-false c =
    bad_rules c.args.bytes.now c.args.lexemes.now c.args.program c.requires.scanned c.requires.short c.requires.parsed
    (sym c.in-Ok-false.ensures ∙ c.in-Ok-false.field-0-test)
