use Rattle.std.proofs.Common.{◌≡◌, ◌++◌}
use Rattle.std.specs.Vec.Iter.{into_iter_items}
use Rattle.qc_nnrs_store.specs.Variables.{last_of, written, without}
use Rattle.qc_nnrs_store.specs.inner.Last.{last_after}
use Rattle.qc_nnrs_store.proofs.writing.take_last.Given as goal

-- what is left decides the last value, and gives the other writes that are wanting
abbrev pub invariant-loop-variable : goal.invariant-loop-variable
invariant-loop-variable l = record {
  last : last_of (written l.x l.fn.part) ≡ last_after l.last (written l.x (into_iter_items l.variable-iterator));
  rest : l.initial.log ++ without l.x l.fn.part ≡ l.log ++ without l.x (into_iter_items l.variable-iterator);
}
