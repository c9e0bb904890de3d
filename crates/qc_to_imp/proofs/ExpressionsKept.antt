-- The expression for one of statements keeps its value.
use Rattle.std.proofs.Common.{◌≡◌, ℕ, Option, Some, None, ap, subst, sym}
use Rattle.qc_data.specs.Outcome.{Mode, Outcome, IsKept}
use Rattle.qc_data.specs.declared.data.Datum.{Datum}
use Rattle.qc_data.proofs.Outcomes.{kept_same, kept_then}
use Rattle.qc_ops.specs.Operands.{found}
use Rattle.qc_ops.specs.Operators.{unary, binary}
use Rattle.qc_types.specs.Schemas.{WorldOf, global}
use Rattle.qc_nnrs.specs.declared.tree.NnrsExpr.{NnrsExpr}
use Rattle.qc_nnrs.specs.declared.tree.NnrsExpr.TheOpen.{NnrsExpr-F}
use Rattle.qc_nnrs.specs.declared.tree.NnrsExpr.TheViews.{roll-NnrsExpr}
use Rattle.qc_nnrs.specs.declared.tree.NnrsExpr.TheFolds.{fold-roll-NnrsExpr, map-NnrsExpr}
use Rattle.qc_nnrs.specs.Meaning as source
use Rattle.qc_nnrs.specs.Meaning.{Class, Reads, Sets, Pushes, Frame, class_of}
use Rattle.qc_nnrs.specs.inner.Induction.{HeldExpr, expr_ind}
use Rattle.qc_imp.specs.declared.tree.ImpExpr.{ImpExpr}
use Rattle.qc_imp.specs.declared.tree.ImpExpr.TheVariants as to
use Rattle.qc_imp.specs.Meaning as target
use Rattle.qc_imp.specs.Meaning.{Cell, Store, cell_of, value_in}
use Rattle.qc_to_imp.specs.inner.Numbering.{Numbers, number_of}
use Rattle.qc_to_imp.specs.inner.StatementTrees.{Renaming, expr_form, renamed}
use Rattle.qc_to_imp.proofs.Frames.{Fits}
use Rattle.qc_to_imp.proofs.ProgramForms.{applied, of-Var, of-Const, of-Global, of-Unary, of-Binary}

-- the same second outcome in another form
pub to_kept : {A : Type 0} (o p q : Outcome A) → q ≡ p → IsKept o p → IsKept o q
to_kept o p q e h = subst (IsKept o) (sym e) h

-- the value that is read, in the cell that is there
read_kept : (o : Option Class) (c : Option Cell) → Fits o c → IsKept (found (source.value_in o)) (found (value_in c))
read_kept None c h = tt
read_kept (Some (Reads v)) c h = to_kept (found v) (found v) (found (value_in c)) (ap found h) (kept_same (found v))
read_kept (Some Sets) c h = tt
read_kept (Some Pushes) c h = tt

module _ (m : Mode) (w : WorldOf) where
  abbrev run : ImpExpr → Store → Outcome Datum
  run e st = target.expr m w e st

  abbrev means : NnrsExpr → source.Reading
  means e = source.expr m w e

  -- the cells of all variables are as the frame says
  abbrev Held : Frame → Numbers → Store → Type 0
  Held g r st = (x : ℕ) → Fits (class_of x g) (cell_of (number_of x r) st)

  abbrev Of : NnrsExpr → Type 0
  Of e = (g : Frame) (r : Numbers) (st : Store) → Held g r st → IsKept (means e g) (run (renamed e r) st)

  layer : (x : NnrsExpr-F NnrsExpr) → HeldExpr Of x → (g : Frame) (r : Numbers) (st : Store) → Held g r st
      → IsKept (source.expr_form m w (map-NnrsExpr NnrsExpr source.Reading means x) g)
      (run (expr_form (map-NnrsExpr NnrsExpr Renaming renamed x) r) st)
  layer (NnrsExpr-F.Var x) k g r st h =
      to_kept _ _ (run (to.Var (number_of x r)) st)
      (applied _ _ st (of-Var target.Reading (target.expr_form m w) (number_of x r)))
      (read_kept (class_of x g) (cell_of (number_of x r) st) (h x))
  layer (NnrsExpr-F.Const d) k g r st h = applied _ _ st (of-Const target.Reading (target.expr_form m w) d)
  layer (NnrsExpr-F.Global name) k g r st h =
      to_kept _ _ (run (to.Global name) st)
      (applied _ _ st (of-Global target.Reading (target.expr_form m w) name))
      (kept_same (found (global name w.datum)))
  layer (NnrsExpr-F.Unary op a) k g r st h =
      to_kept _ _ (run (to.Unary op (renamed a r)) st)
      (applied _ _ st (of-Unary target.Reading (target.expr_form m w) op (renamed a r)))
      (kept_then (means a g) (run (renamed a r) st) _ _ (k g r st h) (λ v. kept_same (unary m w.classes op v)))
  layer (NnrsExpr-F.Binary op a b) k g r st h =
      to_kept _ _ (run (to.Binary op (renamed a r) (renamed b r)) st)
      (applied _ _ st (of-Binary target.Reading (target.expr_form m w) op (renamed a r) (renamed b r)))
      (kept_then (means a g) (run (renamed a r) st) _ _ (k.0 g r st h) (λ u.
      kept_then (means b g) (run (renamed b r) st) _ _ (k.1 g r st h) (λ v. kept_same (binary m op u v))))

  of_layer : (x : NnrsExpr-F NnrsExpr) → HeldExpr Of x → Of (roll-NnrsExpr x)
  of_layer x k g r st h =
      let outcomes : means (roll-NnrsExpr x) ≡ source.expr_form m w (map-NnrsExpr NnrsExpr source.Reading means x) =
      fold-roll-NnrsExpr source.Reading (source.expr_form m w) x in
      let trees : renamed (roll-NnrsExpr x) ≡ expr_form (map-NnrsExpr NnrsExpr Renaming renamed x) =
      fold-roll-NnrsExpr Renaming expr_form x in
      rw (outcomes, trees) (layer x k g r st h)

  pub kept_expr : (e : NnrsExpr) → Of e
  kept_expr = expr_ind Of of_layer
