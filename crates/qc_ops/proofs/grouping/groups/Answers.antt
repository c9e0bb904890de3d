use Rattle.std.proofs.Common.{◌∙◌, rules}
use Rattle.qc_ops.proofs.Groups.{goes_on, is_one, key_counted, next_group, no_group, not_one}
use Rattle.qc_ops.proofs.grouping.groups.Goals as goal
use Rattle.qc_ops.proofs.grouping.groups.Goals.{then-is_first+in_ok-members+in_ok-group+in_ok-add, else-is_first}

pub returns-in_err-group : goal.returns-in_err-group
returns-in_err-group c =
    rw (next_group c.args.g.now c.args.keys.now c.args.rows.now c.as_slice-canons.result.now c.loop-at.at
    c.index-keys-at.result c.index-canons-at.result
    (c.as_slice-canons.ensures.value ∙ c.in_ok-canons.ensures) c.loop-at-test.true c.index-keys-at.is
    c.index-canons-at.is c.loop-at.all c.loop-at.seen c.in_ok-copy.field-0 c.in_ok-is_first.field-0 c.in_ok-copy.ensures
    c.in_ok-is_first.ensures.answer c.loop-at.invariant.seen c.loop-at.invariant.made (is_one _ c.if-is_first.true)
    c.in_ok-gathering.gathering c.in_ok-gathering.ensures c.in_ok-members.members c.in_ok-members.ensures)
    (search rules)

pub loop-at-preserved : goal.loop-at-preserved
loop-at-preserved c = record {
  seen = key_counted c.args.g.now c.args.keys.now c.args.rows.now c.as_slice-canons.result.now c.loop-at.at
      c.index-keys-at.result c.index-canons-at.result
      (c.as_slice-canons.ensures.value ∙ c.in_ok-canons.ensures) c.loop-at-test.true c.index-keys-at.is
      c.index-canons-at.is c.loop-at.all c.loop-at.seen c.in_ok-copy.field-0 c.in_ok-is_first.field-0
      c.in_ok-copy.ensures c.in_ok-is_first.ensures.answer c.loop-at.invariant.seen c.loop-at.invariant.made
      c.add.new.self c.in_ok-is_first.ensures.ok;
  made = elim c.if-is_first.branch [
    | then-is_first+in_ok-members+in_ok-group+in_ok-add w ↦
        goes_on c.args.g.now c.args.keys.now c.args.rows.now c.as_slice-canons.result.now c.loop-at.at
        c.index-keys-at.result c.index-canons-at.result
        (c.as_slice-canons.ensures.value ∙ c.in_ok-canons.ensures) c.loop-at-test.true c.index-keys-at.is
        c.index-canons-at.is c.loop-at.all c.loop-at.seen c.in_ok-copy.field-0 c.in_ok-is_first.field-0
        c.in_ok-copy.ensures c.in_ok-is_first.ensures.answer c.loop-at.invariant.seen c.loop-at.invariant.made
        (is_one _ w.if-is_first.true) c.in_ok-gathering.gathering c.in_ok-gathering.ensures w.in_ok-members.members
        w.in_ok-members.ensures w.in_ok-group.group w.in_ok-group.ensures c.if-is_first.all
        (w.all-is ∙ w.in_ok-add.ensures.ok)
    | else-is_first w ↦
        no_group c.args.g.now c.args.keys.now c.args.rows.now c.as_slice-canons.result.now c.loop-at.at
        c.index-keys-at.result c.index-canons-at.result
        (c.as_slice-canons.ensures.value ∙ c.in_ok-canons.ensures) c.loop-at-test.true c.index-keys-at.is
        c.index-canons-at.is c.loop-at.all c.loop-at.seen c.in_ok-copy.field-0 c.in_ok-is_first.field-0
        c.in_ok-copy.ensures c.in_ok-is_first.ensures.answer c.loop-at.invariant.seen c.loop-at.invariant.made
        (not_one _ w.if-is_first.false) c.if-is_first.all w.all-is
  ];
}
