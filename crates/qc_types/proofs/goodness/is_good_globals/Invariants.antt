use Rattle.std.proofs.Common.{◌≡◌, drop}
use Rattle.qc_types.specs.Schemas.{good_globals}
use Rattle.qc_types.proofs.goodness.is_good_globals.Given as goal

-- what is left decides
abbrev pub invariant-loop-pair : goal.invariant-loop-pair
invariant-loop-pair l = record {
  whole : l.pair-items ≡ l.globals;
  left : good_globals l.index l.globals ≡ good_globals l.index (drop l.pair-index l.pair-items);
}
