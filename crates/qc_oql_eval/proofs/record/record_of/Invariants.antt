use Rattle.std.proofs.Common.{◌≡◌, vec_len}
use Rattle.qc_oql_tree.specs.FormMeanings.{record_of}
use Rattle.qc_oql_eval.proofs.Recording.{record_onto}
use Rattle.qc_oql_eval.proofs.record.record_of.Given as goal

abbrev pub invariant-loop-name : goal.invariant-loop-name
invariant-loop-name l = record_onto l.pairs.items l.fields ≡ record_of l.fn.pairs.items

abbrev pub decreases-loop-name : goal.decreases-loop-name
decreases-loop-name l = vec_len l.pairs
