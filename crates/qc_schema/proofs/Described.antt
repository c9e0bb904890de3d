-- The tree of a record's type.
use Rattle.std.proofs.Common.{◌≡◌, ℕ, List, map, Result, IfOk, sym, ap, subst, ◌∙◌}
use Rattle.qc_containers.specs.Rising.{on_value}
use Rattle.qc_data.specs.declared.data.Json.{Json}
use Rattle.qc_data.specs.declared.data.Json.TheVariants.{Object}
use Rattle.qc_types.specs.declared.ty.Width.{Width}
use Rattle.qc_types.specs.declared.ty.Ty.{Ty}
use Rattle.qc_types.specs.declared.ty.Ty.TheOpen.{Ty-F}
use Rattle.qc_types.specs.declared.ty.Ty.TheFolds.{fold-roll-Ty}
use Rattle.qc_types.specs.declared.ty.Ty.TheVariants as ty
use Rattle.qc_schema.specs.TypeText.{one, tree_of, tree_step, width_name}

tree-Rec : (w : Width) (row : List (List ℕ × Ty))
    → tree_of (ty.Rec w row) ≡ one (width_name w) (Object (map (on_value tree_of) row))
tree-Rec w row = ap tree_of (sym (ty.rolls-Rec w row)) ∙ fold-roll-Ty Json tree_step (Ty-F.Rec w row)

-- what is made of the fields' trees is the tree of the type
pub rec_is : {E : Type 0} (t : Ty) (w : Width) (row : List (List ℕ × Ty)) (fields : List (List ℕ × Json))
    (r : Result Json E) → t ≡ ty.Rec w row → fields ≡ map (on_value tree_of) row
    → IfOk r (λ made. made ≡ one (width_name w) (Object fields)) → IfOk r (λ made. made ≡ tree_of t)
rec_is t w row fields r is parts e =
    subst (λ x. IfOk r (λ made. made ≡ x))
    (ap (λ ps. one (width_name w) (Object ps)) parts ∙ sym (tree-Rec w row) ∙ ap tree_of (sym is)) e
