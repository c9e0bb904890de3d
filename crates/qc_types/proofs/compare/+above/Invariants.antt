use Rattle.std.proofs.Common.{◌≡◌, drop}
use Rattle.qc_types.specs.Types.{sub}
use Rattle.qc_containers.specs.Pairs.{lookup}
use Rattle.qc_containers.specs.Rising.{Rising}
use Rattle.qc_types.specs.Rows.{has_fields, all_in, at_field, names}
use Rattle.qc_types.proofs.compare.+above.Given as goal

abbrev pub invariant-has_above-loop-pair : goal.invariant-has_above-loop-pair
invariant-has_above-loop-pair l =
    record {
      rising : Rising l.pair-items;
      left : has_fields (sub l.index) l.ts l.us
          ≡ all_in (λ n. at_field (sub l.index) (lookup n l.ts) (lookup n l.us))
          (names (drop l.pair-index l.pair-items));
      whole : l.pair-items ≡ l.us;
    }
