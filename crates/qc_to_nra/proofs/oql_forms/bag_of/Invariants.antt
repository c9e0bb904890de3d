use Rattle.std.proofs.Common.{◌≡◌, [], vec_len}
use Rattle.qc_data.specs.declared.data.Datum.TheVariants.{Coll}
use Rattle.qc_nra.specs.declared.tree.Nra.TheVariants as nra
use Rattle.qc_oql_nra.specs.OqlForms.{folded, member_before}
use Rattle.qc_to_nra.proofs.oql_forms.bag_of.Given as goal

abbrev pub invariant-loop-member : goal.invariant-loop-member
invariant-loop-member l =
    folded member_before l.members.items l.made ≡ folded member_before l.fn.members.items (nra.Const (Coll []))

abbrev pub decreases-loop-member : goal.decreases-loop-member
decreases-loop-member l = vec_len l.members
