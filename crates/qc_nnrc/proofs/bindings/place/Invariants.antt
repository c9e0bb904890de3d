use Rattle.std.proofs.Common.{◌≡◌, ◌+◌, drop}
use Rattle.qc_nnrc.specs.inner.Places.{place_of}
use Rattle.qc_nnrc.proofs.bindings.place.Given as goal

-- those before, and where it stands among the others
abbrev pub invariant-loop-pair : goal.invariant-loop-pair
invariant-loop-pair g l = record {
  count : l.at ≡ l.pair-index;
  rest : place_of l.variable l.pairs ≡ l.at + place_of l.variable (drop l.pair-index l.pairs);
}
