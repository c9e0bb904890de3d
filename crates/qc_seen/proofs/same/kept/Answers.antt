use Rattle.qc_seen.proofs.KeptItems.{as_many, kept_ok}
use Rattle.qc_seen.proofs.same.kept.Goals as goal

pub picked-requires : goal.picked-requires
picked-requires c =
    as_many c.args.rule c.args.items.now c.args.elsewhere.now c.in_ok-marks.marks c.in_ok-marks.others
    c.as_slice.result.now c.as_slice-2.result.now c.in_ok-flags.flags.items c.as_slice-3.result.now
    c.in_ok-marks.ensures c.as_slice.ensures c.as_slice-2.ensures c.in_ok-flags.ensures c.as_slice-3.ensures.value

pub returns : goal.returns
returns c =
    kept_ok c.args.rule c.args.items.now c.args.elsewhere.now c.in_ok-marks.marks c.in_ok-marks.others
    c.as_slice.result.now c.as_slice-2.result.now c.in_ok-flags.flags.items c.as_slice-3.result.now
    c.in_ok-marks.ensures c.as_slice.ensures c.as_slice-2.ensures c.in_ok-flags.ensures c.as_slice-3.ensures.value
    c.picked.result c.picked.ensures
