use Rattle.std.proofs.Common.{◌≡◌, ◌≤◌, drop, length}
use Rattle.qc_ops.specs.Records.{over}
use Rattle.qc_rt.specs.Seen.{fields_seen}
use Rattle.qc_runtime.proofs.objects.over.Given as goal

abbrev pub invariant-loop-at : goal.invariant-loop-at
invariant-loop-at l = record {
  so_far : fields_seen l.made ≡ over (fields_seen (drop l.at l.pairs)) (fields_seen l.second);
  within : l.at ≤ length l.pairs;
}

abbrev pub decreases-loop-at : goal.decreases-loop-at
decreases-loop-at l = l.at
