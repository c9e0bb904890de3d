-- Which programs are well formed: each variable is bound, and used as its class says.
use Rattle.std.specs.Prelude.{◌&&◌, Bool, true, [], ◌∷◌}
use Rattle.qc_nnrs.specs.declared.tree.NnrsExpr.{NnrsExpr}
use Rattle.qc_nnrs.specs.declared.tree.NnrsExpr.TheOpen.{NnrsExpr-F}
use Rattle.qc_nnrs.specs.declared.tree.NnrsExpr.TheFolds.{fold-NnrsExpr}
use Rattle.qc_nnrs.specs.declared.tree.NnrsStmt.{NnrsStmt}
use Rattle.qc_nnrs.specs.declared.tree.NnrsStmt.TheOpen.{NnrsStmt-F}
use Rattle.qc_nnrs.specs.declared.tree.NnrsStmt.TheFolds.{fold-NnrsStmt}
use Rattle.qc_nnrs.specs.declared.tree.Nnrs.{Nnrs}
use Rattle.qc_nnrs.specs.Meaning.{Sets, Pushes, Frame, class_of}
pub use Rattle.qc_nnrs_store.specs.Variables.{read_only, is_read, is_set, is_pushed}

-- the variables that are bound, by class alone
abbrev pub Scope : Type 0
Scope = Frame

-- an expression: each variable is one that is read
abbrev pub expr_fits : NnrsExpr-F (Scope → Bool) → Scope → Bool
expr_fits (NnrsExpr-F.Var x) s = is_read (class_of x s)
expr_fits (NnrsExpr-F.Const d) s = true
expr_fits (NnrsExpr-F.Global name) s = true
expr_fits (NnrsExpr-F.Unary op a) s = a s
expr_fits (NnrsExpr-F.Binary op a b) s = a s && b s

abbrev pub fits_expr : NnrsExpr → Scope → Bool
fits_expr e = fold-NnrsExpr (Scope → Bool) expr_fits e

-- a statement by its parts
abbrev pub stmt_fits : NnrsStmt-F (Scope → Bool) → Scope → Bool
stmt_fits (NnrsStmt-F.Seq a b) s = a s && b s
stmt_fits (NnrsStmt-F.Let x e b) s = fits_expr e s && b ((x, read_only) ∷ s)
stmt_fits (NnrsStmt-F.LetMut x a b) s = a ((x, Sets) ∷ s) && b ((x, read_only) ∷ s)
stmt_fits (NnrsStmt-F.LetColl x a b) s = a ((x, Pushes) ∷ s) && b ((x, read_only) ∷ s)
stmt_fits (NnrsStmt-F.Set x e) s = is_set (class_of x s) && fits_expr e s
stmt_fits (NnrsStmt-F.Push x e) s = is_pushed (class_of x s) && fits_expr e s
stmt_fits (NnrsStmt-F.For x e b) s = fits_expr e s && b ((x, read_only) ∷ s)
stmt_fits (NnrsStmt-F.If e a b) s = fits_expr e s && (a s && b s)
stmt_fits (NnrsStmt-F.Either e x a y b) s =
    fits_expr e s && (a ((x, read_only) ∷ s) && b ((y, read_only) ∷ s))

abbrev pub fits_stmt : NnrsStmt → Scope → Bool
fits_stmt t = fold-NnrsStmt (Scope → Bool) stmt_fits t

-- a program: its variable may only be set in its statement
abbrev pub well_formed : Nnrs → Bool
well_formed p = fits_stmt p.body ((p.result, Sets) ∷ [])
