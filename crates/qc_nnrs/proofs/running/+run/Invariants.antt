use Rattle.std.proofs.Common.{◌≡◌, drop}
use Rattle.qc_data.specs.Outcome.{bits64}
use Rattle.qc_nnrs_store.specs.Chains.{frame_of}
use Rattle.qc_nnrs.specs.inner.Logged.{all_logged, logged, logs_with}
use Rattle.qc_nnrs.proofs.running.+run.Given as goal

-- what is left makes of the log what all does
abbrev pub invariant-run_each-loop-item : goal.invariant-run_each-loop-item
invariant-run_each-loop-item l =
    all_logged (logs_with l.x (logged bits64 l.world l.body) (frame_of l.chain)) l.initial.log l.item-items
    ≡ all_logged (logs_with l.x (logged bits64 l.world l.body) (frame_of l.chain)) l.log
    (drop l.item-index l.item-items)
