-- What scopes and private answers of the code stand for.
use Rattle.std.specs.Prelude.{◌≡◌, ℕ, ◌&&◌, not, is_some, List, [], ◌∷◌, map, cond, Result, Ok, Err}
use Rattle.qc_containers.specs.Name.{is_name}
use Rattle.qc_containers.specs.Pairs.{lookup, put}
use Rattle.qc_types.specs.declared.ty.Ty.{Ty}
use Rattle.qc_typing.specs.declared.fault.TypeFault.{TypeFault}
use Rattle.qc_typing.specs.declared.fault.TypeFault.TheVariants as fault
use Rattle.qc_oql_tree.specs.FormTypings.{Types}
use Rattle.qc_oql_tree.specs.PartTypes.{FieldType}
use Rattle.qc_oql_check.specs.declared.record.TypedField.{TypedField}
use Rattle.qc_oql_check.specs.declared.scope.Scope.{Scope}
use Rattle.qc_oql_check.specs.declared.scope.Scope.TheVariants as scope

-- what a row binds, the last the newest, before what is bound already
abbrev pub onto : Types → Types → Types
onto [] s = s
onto (b ∷ bs) s = onto bs (b ∷ s)

-- the types of a scope
abbrev pub types_of : Scope → Types
types_of scope.Empty = []
types_of (scope.Bind' name t p outer) = (name.now, t.now) ∷ types_of outer
types_of (scope.Row' row p outer) = onto row.now (types_of outer)

-- the fields of a struct with their types
abbrev pub field_types : List TypedField → List FieldType
field_types fields = map (λ f. record { at = f.at; label = f.label.now; type = f.of }) fields

-- the row with one more field; a label that is no name, or that an earlier field has, is a fault
abbrev pub with_field : FieldType → List (List ℕ × Ty) → Result (List (List ℕ × Ty)) ℕ
with_field f row = cond (is_name f.label && not (is_some (lookup f.label row))) (Ok (put f.label f.type row)) (Err f.at)

-- the code's answer stands for that of the check, unless memory was wanting
abbrev pub ChecksAs : {A B : Type 0} → (B → A) → Result A ℕ → Result B TypeFault → Type 0
ChecksAs f r (Ok b) = r ≡ Ok (f b)
ChecksAs f r (Err (fault.BadType at)) = r ≡ Err at
ChecksAs f r (Err fault.Memory) = Unit {0}
