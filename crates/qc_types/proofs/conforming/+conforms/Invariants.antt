use Rattle.std.proofs.Common.{◌≡◌, drop}
use Rattle.qc_containers.specs.Pairs.{lookup}
use Rattle.qc_containers.specs.Rising.{Rising}
use Rattle.qc_types.specs.Rows.{all_in, names}
use Rattle.qc_types.specs.inner.Shared.{at_shared, has_shared}
use Rattle.qc_types.specs.Types.{fits}
use Rattle.qc_types.proofs.conforming.+conforms.Given as goal

-- what is left decides
abbrev pub invariant-are_of-loop-item : goal.invariant-are_of-loop-item
invariant-are_of-loop-item l = record {
  whole : l.item-items ≡ l.items;
  left : all_in (λ d. fits l.index d l.t) l.items ≡ all_in (λ d. fits l.index d l.t) (drop l.item-index l.item-items);
}

abbrev pub invariant-fields_fit-loop-pair : goal.invariant-fields_fit-loop-pair
invariant-fields_fit-loop-pair l = record {
  rising : Rising l.pair-items;
  left : has_shared (fits l.index) l.fields l.row
      ≡ all_in (λ n. at_shared (fits l.index) (lookup n l.fields) (lookup n l.row))
      (names (drop l.pair-index l.pair-items));
  whole : l.pair-items ≡ l.fields;
}
