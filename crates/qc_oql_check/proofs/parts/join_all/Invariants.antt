use Rattle.std.proofs.Common.{◌≡◌, drop}
use Rattle.qc_types.specs.declared.ty.Ty.TheVariants as ty
use Rattle.qc_oql_tree.specs.PartTypes.{join_all}
use Rattle.qc_oql_check.proofs.parts.join_all.Given as goal

abbrev pub invariant-loop-member : goal.invariant-loop-member
invariant-loop-member l =
    join_all l.classes ty.Bottom l.types ≡ join_all l.classes l.joined (drop l.member-index l.types)
