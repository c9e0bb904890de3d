use Rattle.std.proofs.Common.{◌∙◌, sym, rules}
use Rattle.qc_data.specs.Outcome.{bits64}
use Rattle.qc_ops.proofs.Means.{average_is}
use Rattle.qc_ops.proofs.aggregates.average.Goals as goal

pub returns-in_err-mean : goal.returns-in_err-mean
returns-in_err-mean c =
    rw (average_is bits64 c.args.a.now c.in_ok-items.items.now c.as_slice.result.now c.in_ok-total.total c.len-2.result
    c.in_ok-items.ensures c.as_slice.ensures c.len-2.ensures
    (λ e. c.if-len-eq0.false (c.len.ensures ∙ sym c.len-2.ensures ∙ e)) c.in_ok-total.ensures) (search rules)

pub returns : goal.returns
returns c =
    rw (average_is bits64 c.args.a.now c.in_ok-items.items.now c.as_slice.result.now c.in_ok-total.total c.len-2.result
    c.in_ok-items.ensures c.as_slice.ensures c.len-2.ensures
    (λ e. c.if-len-eq0.false (c.len.ensures ∙ sym c.len-2.ensures ∙ e)) c.in_ok-total.ensures) (search rules)
