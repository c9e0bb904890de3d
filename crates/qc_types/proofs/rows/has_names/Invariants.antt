use Rattle.std.proofs.Common.{◌≡◌, drop}
use Rattle.std.specs.Prelude.{is_some}
use Rattle.qc_containers.specs.Pairs.{lookup}
use Rattle.qc_types.specs.Rows.{all_in, names}
use Rattle.qc_types.proofs.rows.has_names.Given as goal

abbrev pub invariant-loop-pair : goal.invariant-loop-pair
invariant-loop-pair g l = record {
  whole : l.pair-items ≡ l.wanted;
  left : all_in (λ n. is_some (lookup n l.row)) (names l.wanted)
      ≡ all_in (λ n. is_some (lookup n l.row)) (names (drop l.pair-index l.pair-items));
}
