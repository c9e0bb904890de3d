use Rattle.std.proofs.Common.{◌∙◌, arith, None, refl, sym, append-nil}
use Rattle.qc_types.specs.Joins.{join}
use Rattle.qc_types.proofs.JoinKinds.{one_more, still_rises}
use Rattle.qc_types.proofs.joining.+join.Goals as goal
use Rattle.qc_types.proofs.joining.+join.Goals.{join_rows-in-Some+in_ok-made-in-Some+in_ok-add_some-in-Some}
use Rattle.qc_types.proofs.joining.+join.Goals.{join_rows-in-None}

pub join_rows-add_some-requires : goal.join_rows-add_some-requires
join_rows-add_some-requires t c = let j = join c.args.index.now in record {
  rising = rw (one_more j c.args.ts.now c.args.us.now c.as_slice-pair-items.result.now c.loop-pair.pair-index
      c.pair-item.result c.as_str.result.now _ c.in_ok-made-in-Some.made c.loop-pair.row c.loop-pair.invariant.upto
      c.loop-pair.invariant.whole c.loop-pair.invariant.rising
      (omega arith) c.pair-item.is c.as_str.ensures.text c.in-Some.ensures c.in_ok-made-in-Some.ensures)
      (still_rises j c.args.ts.now c.args.us.now c.as_slice-pair-items.result.now c.loop-pair.pair-index
      c.pair-item.result c.loop-pair.invariant.rising);
}

pub join_rows-loop-pair-preserved : goal.join_rows-loop-pair-preserved
join_rows-loop-pair-preserved t c = let j = join c.args.index.now in record {
  whole = c.loop-pair.invariant.whole;
  rising = c.loop-pair.invariant.rising;
  upto = elim c.match-value_of.branch [
    | join_rows-in-Some+in_ok-made-in-Some+in_ok-add_some-in-Some w ↦ w.row-is ∙ w.in_ok-add_some-in-Some.ensures
        ∙ one_more j c.args.ts.now c.args.us.now c.as_slice-pair-items.result.now c.loop-pair.pair-index
        c.pair-item.result
        c.as_str.result.now _ w.in_ok-made-in-Some.made c.loop-pair.row c.loop-pair.invariant.upto
        c.loop-pair.invariant.whole c.loop-pair.invariant.rising
        (omega arith) c.pair-item.is c.as_str.ensures.text w.in-Some.ensures w.in_ok-made-in-Some.ensures
    | join_rows-in-None w ↦ w.row-is ∙ sym (append-nil c.loop-pair.row)
        ∙ one_more j c.args.ts.now c.args.us.now c.as_slice-pair-items.result.now c.loop-pair.pair-index
        c.pair-item.result
        c.as_str.result.now None None c.loop-pair.row c.loop-pair.invariant.upto c.loop-pair.invariant.whole
        c.loop-pair.invariant.rising (omega arith) c.pair-item.is c.as_str.ensures.text w.in-None.ensures refl
  ];
}
