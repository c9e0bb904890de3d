use Rattle.std.proofs.Common.{◌∙◌, sym, rules}
use Rattle.qc_data.specs.Outcome.{bits64}
use Rattle.qc_runtime.proofs.Averages.{average_seen}
use Rattle.qc_runtime.proofs.aggregates.average.Goals as goal

pub returns-in_err-mean : goal.returns-in_err-mean
returns-in_err-mean c =
    rw (average_seen bits64 c.args.args.now c.in_ok-a.a.now c.in_ok-items.items.now c.as_slice.result.now
    c.in_ok-total.total c.len-2.result c.in_ok-a.ensures c.in_ok-items.ensures c.as_slice.ensures c.len-2.ensures
    (λ e. c.if-len-eq0.false (c.len.ensures ∙ sym c.len-2.ensures ∙ e)) c.in_ok-total.ensures) (search rules)

pub returns : goal.returns
returns c =
    rw (average_seen bits64 c.args.args.now c.in_ok-a.a.now c.in_ok-items.items.now c.as_slice.result.now
    c.in_ok-total.total c.len-2.result c.in_ok-a.ensures c.in_ok-items.ensures c.as_slice.ensures c.len-2.ensures
    (λ e. c.if-len-eq0.false (c.len.ensures ∙ sym c.len-2.ensures ∙ e)) c.in_ok-total.ensures) (search rules)
