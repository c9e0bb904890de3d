use Rattle.std.proofs.Common.{◌∙◌}
use Rattle.qc_containers.proofs.Putting.{Rising-next-map}
use Rattle.qc_schema.proofs.Described.{rec_is}
use Rattle.qc_schema.specs.TypeText.{tree_of}
use Rattle.qc_schema.proofs.describing.+described.Goals as goal

pub row_tree-add-requires : goal.row_tree-add-requires
row_tree-add-requires t c = record {
  rising = Rising-next-map tree_of c.as_slice-pair-items.result.now _ c.loop-pair.pair-index c.pair-item.result _ _
      (rw c.as_slice-pair-items.ensures.pairs c.as_slice-pair-items.ensures.rising) c.loop-pair-test.true
      c.loop-pair.invariant c.pair-item.is
      (c.in_ok-name.ensures ∙ c.as_str.ensures.text) c.in_ok-type_tree.ensures;
}

pub type_tree-returns-in_ok-fields-in-Rec : goal.type_tree-returns-in_ok-fields-in-Rec
type_tree-returns-in_ok-fields-in-Rec t c =
    rec_is c.args.t.now _ _ c.in_ok-fields-in-Rec.fields c.record_tree.result c.in-Rec.is c.in_ok-fields-in-Rec.ensures
    c.record_tree.ensures
