-- The joins of types.
use Rattle.std.specs.Prelude.{cond, Option, None, option_and_then}
use Rattle.qc_types.specs.declared.ty.Ty.{Ty}
use Rattle.qc_types.specs.declared.ty.Ty.TheVariants as ty
use Rattle.qc_types.specs.Classes.{Defs}
use Rattle.qc_types.specs.Joins.{join}
use Rattle.qc_types.specs.Types.{sub}

-- the join of two types that are there
abbrev pub join_both : Defs → Option Ty → Option Ty → Option Ty
join_both c o p = option_and_then (λ t. option_and_then (join c t) p) o

-- the join of two branches, where the type of the condition is that of truth values
abbrev pub chosen_type : Defs → Ty → Ty → Ty → Option Ty
chosen_type c t x y = cond (sub c t ty.Bool) (join c x y) None
