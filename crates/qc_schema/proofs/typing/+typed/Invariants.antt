use Rattle.std.proofs.Common.{◌≡◌, ◌++◌, drop, map, option_map}
use Rattle.qc_containers.specs.Rising.{Rising, on_value}
use Rattle.qc_containers.proofs.Appending.{names}
use Rattle.qc_schema.specs.TypeForms.{said, row_of}
use Rattle.qc_schema.proofs.typing.+typed.Given as goal

abbrev pub invariant-read_fields-loop-pair : goal.invariant-read_fields-loop-pair
invariant-read_fields-loop-pair l = record {
  rising : Rising (names l.all ++ names (drop l.pair-index l.pair-items));
  done : row_of (map (on_value said) l.pair-items)
      ≡ option_map (λ fs. l.all ++ fs) (row_of (map (on_value said) (drop l.pair-index l.pair-items)));
}
