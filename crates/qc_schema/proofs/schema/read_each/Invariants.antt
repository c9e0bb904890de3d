use Rattle.std.proofs.Common.{◌≡◌, ◌++◌, drop, option_map}
use Rattle.qc_schema.specs.SchemaFile.{each_class}
use Rattle.qc_schema.proofs.schema.read_each.Given as goal

abbrev pub invariant-loop-item : goal.invariant-loop-item
invariant-loop-item l =
    each_class l.item-items ≡ option_map (λ ds. l.all.items ++ ds) (each_class (drop l.item-index l.item-items))
