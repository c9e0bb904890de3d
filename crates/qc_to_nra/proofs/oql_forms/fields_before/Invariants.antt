use Rattle.std.proofs.Common.{◌≡◌, vec_len}
use Rattle.qc_oql_nra.specs.OqlForms.{field_before, folded}
use Rattle.qc_to_nra.proofs.oql_forms.fields_before.Given as goal

abbrev pub invariant-loop-label : goal.invariant-loop-label
invariant-loop-label l =
    folded field_before l.fields.items l.made ≡ folded field_before l.fn.fields.items l.fn.rest

abbrev pub decreases-loop-label : goal.decreases-loop-label
decreases-loop-label l = vec_len l.fields
