use Rattle.std.proofs.Common.{◌∙◌, ap, map}
use Rattle.qc_data.specs.Order.{canon}
use Rattle.qc_data.specs.Outcome.{why_of}
use Rattle.qc_ops.specs.Grouping.{Lacks}
use Rattle.qc_ops.proofs.Groups.{is_one, not_one}
use Rattle.qc_runtime.proofs.Grouped.{error_gives, goes_on, key_counted, lacks_at, memory_gives}
use Rattle.qc_runtime.proofs.Grouped.{no_group, stops}
use Rattle.qc_runtime.proofs.grouping.groups.Goals as goal
use Rattle.qc_runtime.proofs.grouping.groups.Goals.{then-is_first+in_ok-members+in_ok-group+in_ok-add, else-is_first}

pub returns-in_err-group : goal.returns-in_err-group
returns-in_err-group c =
    error_gives _ c.from_residual-in_err-group.result c.in_err-group.field-0.0 c.from_residual-in_err-group.ensures.1
    (λ n. stops c.args.g.now c.args.keys.now c.args.rows.now c.in_ok-marks.ensures.0 c.in_ok-marks.marks
    c.as_slice-canons.result.now c.loop-at.at c.index-keys-at.result c.index-canons-at.result c.in_ok-marks.ensures.1
    (c.as_slice-canons.ensures.value ∙ c.in_ok-canons.ensures ∙ ap (map canon) c.as_slice.ensures)
    c.loop-at-test.true c.index-keys-at.is c.index-canons-at.is c.loop-at.all c.loop-at.seen c.in_ok-copy.field-0
    c.in_ok-is_first.field-0 c.in_ok-copy.ensures c.in_ok-is_first.ensures.answer c.loop-at.invariant.counted
    c.loop-at.invariant.made (is_one _ c.if-is_first.true)
    c.in_ok-gathering.gathering c.in_ok-gathering.ensures c.in_ok-members.members c.in_ok-members.ensures
    (why_of c.in_err-group.field-0.0) (c.in_err-group.ensures n))

pub returns-in_err-add : goal.returns-in_err-add
returns-in_err-add c = memory_gives _ c.from_residual-in_err-add.result c.from_residual-in_err-add.ensures.1

pub group_of-requires-clause-lacking : goal.group_of-requires-clause-lacking
group_of-requires-clause-lacking c =
    lacks_at (Lacks c.args.g.now) c.args.keys.now c.loop-at.at c.index-keys-at.result c.requires.lacking
    c.loop-at-test.true c.index-keys-at.is

pub loop-at-preserved : goal.loop-at-preserved
loop-at-preserved c = record {
  counted = key_counted c.args.g.now c.args.keys.now c.args.rows.now c.in_ok-marks.ensures.0 c.in_ok-marks.marks
      c.as_slice-canons.result.now c.loop-at.at c.index-keys-at.result c.index-canons-at.result c.in_ok-marks.ensures.1
      (c.as_slice-canons.ensures.value ∙ c.in_ok-canons.ensures ∙ ap (map canon) c.as_slice.ensures)
      c.loop-at-test.true c.index-keys-at.is c.index-canons-at.is c.loop-at.all c.loop-at.seen c.in_ok-copy.field-0
      c.in_ok-is_first.field-0 c.in_ok-copy.ensures c.in_ok-is_first.ensures.answer c.loop-at.invariant.counted
      c.loop-at.invariant.made
      c.add.new.self c.in_ok-is_first.ensures.ok;
  made = elim c.if-is_first.branch [
    | then-is_first+in_ok-members+in_ok-group+in_ok-add w ↦
        goes_on c.args.g.now c.args.keys.now c.args.rows.now c.in_ok-marks.ensures.0 c.in_ok-marks.marks
        c.as_slice-canons.result.now c.loop-at.at c.index-keys-at.result c.index-canons-at.result
        c.in_ok-marks.ensures.1
        (c.as_slice-canons.ensures.value ∙ c.in_ok-canons.ensures ∙ ap (map canon) c.as_slice.ensures)
        c.loop-at-test.true c.index-keys-at.is c.index-canons-at.is c.loop-at.all c.loop-at.seen c.in_ok-copy.field-0
        c.in_ok-is_first.field-0 c.in_ok-copy.ensures c.in_ok-is_first.ensures.answer c.loop-at.invariant.counted
        c.loop-at.invariant.made
        (is_one _ w.if-is_first.true) c.in_ok-gathering.gathering c.in_ok-gathering.ensures w.in_ok-members.members
        w.in_ok-members.ensures w.in_ok-group.group w.in_ok-group.ensures c.if-is_first.all
        (w.all-is ∙ w.in_ok-add.ensures.ok)
    | else-is_first w ↦
        no_group c.args.g.now c.args.keys.now c.args.rows.now c.in_ok-marks.ensures.0 c.in_ok-marks.marks
        c.as_slice-canons.result.now c.loop-at.at c.index-keys-at.result c.index-canons-at.result
        c.in_ok-marks.ensures.1
        (c.as_slice-canons.ensures.value ∙ c.in_ok-canons.ensures ∙ ap (map canon) c.as_slice.ensures)
        c.loop-at-test.true c.index-keys-at.is c.index-canons-at.is c.loop-at.all c.loop-at.seen c.in_ok-copy.field-0
        c.in_ok-is_first.field-0 c.in_ok-copy.ensures c.in_ok-is_first.ensures.answer c.loop-at.invariant.counted
        c.loop-at.invariant.made
        (not_one _ w.if-is_first.false) c.if-is_first.all w.all-is
  ];
}
