use Rattle.std.proofs.Common.{◌≡◌, drop}
use Rattle.std.specs.List.{list_all}
use Rattle.qc_containers.specs.Pairs.{lookup}
use Rattle.qc_typing.specs.FieldTypes.{atom_at}
use Rattle.qc_typing.proofs.rows.has_atoms.Given as goal

-- what is left decides
abbrev pub invariant-loop-key : goal.invariant-loop-key
invariant-loop-key l = record {
  whole : l.key-items ≡ l.keys;
  left : list_all (λ key. atom_at l.classes (lookup key.0 l.row)) l.keys
      ≡ list_all (λ key. atom_at l.classes (lookup key.0 l.row)) (drop l.key-index l.key-items);
}
