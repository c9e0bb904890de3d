use Rattle.std.proofs.Common.{◌≡◌, ◌≤◌, drop, length}
use Rattle.qc_typing.specs.FieldTypes.{chosen}
use Rattle.qc_typing.proofs.fields.chosen.Given as goal

-- the fields at the names from here on
abbrev pub invariant-loop-at : goal.invariant-loop-at
invariant-loop-at l = record {
  within : l.at ≤ length l.names;
  chosen : l.fields ≡ chosen (drop l.at l.names) l.row;
}

abbrev pub decreases-loop-at : goal.decreases-loop-at
decreases-loop-at l = l.at
