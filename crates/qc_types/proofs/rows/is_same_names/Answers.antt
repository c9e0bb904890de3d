use Rattle.std.proofs.Common.{ap, length, sym, ◌∙◌}
use Rattle.qc_types.proofs.RowLaws.{rows_differ}
use Rattle.qc_types.proofs.rows.is_same_names.Goals as goal

pub returns-then-row-other : goal.returns-then-row-other
returns-then-row-other g c =
    rows_differ c.args.row.now c.args.other.now
    (λ e. c.if-row-other.true (ap length c.as_slice-row.ensures.pairs ∙ e
    ∙ sym (ap length c.as_slice-other.ensures.pairs)))
