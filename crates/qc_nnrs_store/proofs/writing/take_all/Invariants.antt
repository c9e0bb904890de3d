use Rattle.std.proofs.Common.{◌≡◌, ◌++◌}
use Rattle.std.specs.Vec.Iter.{into_iter_items}
use Rattle.qc_nnrs_store.specs.Variables.{written, without}
use Rattle.qc_nnrs_store.proofs.writing.take_all.Given as goal

-- what is left gives the values and the other writes that are wanting
abbrev pub invariant-loop-variable : goal.invariant-loop-variable
invariant-loop-variable l = record {
  all : written l.x l.fn.part ≡ l.all ++ written l.x (into_iter_items l.variable-iterator);
  rest : l.initial.log ++ without l.x l.fn.part ≡ l.log ++ without l.x (into_iter_items l.variable-iterator);
}
