-- The type of an expression of a known form.
use Rattle.std.proofs.Common.{◌≡◌}
use Rattle.std.specs.Prelude.{Result}
use Rattle.qc_types.specs.declared.ty.Ty.{Ty}
use Rattle.qc_types.specs.Schemas.{SchemaOf}
use Rattle.qc_typing.specs.Checking.{Checks}
use Rattle.qc_typing.specs.declared.fault.TypeFault.{TypeFault}
use Rattle.qc_oql_tree.specs.declared.tree.Oql.{Oql}
use Rattle.qc_oql_tree.specs.FormTypings.{Types, Typing}
use Rattle.qc_oql_tree.specs.Typing.{oql_type}

-- by the form that the tree has, and the typing of that form
pub arm : (c : SchemaOf) (s : Types) (x y : Oql) (f : Typing) (r : Result Ty TypeFault) → x ≡ y → oql_type c y ≡ f
    → Checks (f s) r → Checks (oql_type c x s) r
arm c s x y f r e d h = rw (e, d) h
