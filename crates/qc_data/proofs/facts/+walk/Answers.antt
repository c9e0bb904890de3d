use Rattle.qc_data.specs.Facts.{rising}
use Rattle.qc_data.proofs.Risen.{rise-mapped}
use Rattle.qc_data.proofs.facts.+walk.Goals as goal

pub held_fields-returns-clause-rising : goal.held_fields-returns-clause-rising
held_fields-returns-clause-rising t c =
    rise-mapped rising c.args.fields.now c.as_slice-pair-items.result.now c.as_slice-pair-items.ensures.pairs
    c.as_slice-pair-items.ensures.rising
