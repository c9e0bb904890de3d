use Rattle.std.proofs.Common.{◌≡◌, rules}
use Rattle.std.specs.String.{string_bytes}
use Rattle.qc_data.specs.Encoding.{enc}
use Rattle.qc_schema.specs.Writing.{text_of}
use Rattle.qc_work.specs.Work.{line}
use Rattle.qc_work.proofs.Evaluated.{never_stuck, answer_of}
use Rattle.qc_work.proofs.actions.answer_line.Goals as goal

pub unreachable-requires : goal.unreachable-requires
unreachable-requires c =
    never_stuck c.args.checked.now c.args.world.now c.requires.world c.requires.typed c.in-Err-Stuck.field-0
    c.in-Err-Stuck.field-0-is c.in-Err-Stuck.ensures

pub returns-in_ok-line-in-Ok : goal.returns-in_ok-line-in-Ok
returns-in_ok-line-in-Ok c =
    let text : string_bytes c.in_ok-line-in-Ok.field-0 ≡ line (text_of (enc c.in-Ok.answer)) = search rules in
    answer_of c.args.checked.now c.args.world.now c.requires.world c.requires.typed c.in-Ok.answer c.in-Ok.ensures _
    text
