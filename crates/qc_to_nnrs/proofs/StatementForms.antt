-- What is defined form by form on expressions and statements, at each form.
use Rattle.std.proofs.Common.{◌≡◌, ℕ, List, rules, sym, ap, ◌∙◌}
use Rattle.qc_data.specs.declared.data.Datum.{Datum}
use Rattle.qc_ops.specs.declared.op.Binary.{Binary}
use Rattle.qc_ops.specs.declared.op.Unary.{Unary}
use Rattle.qc_nnrs.specs.declared.tree.NnrsExpr.{NnrsExpr}
use Rattle.qc_nnrs.specs.declared.tree.NnrsExpr.TheVariants as expr
use Rattle.qc_nnrs.specs.declared.tree.NnrsExpr.TheOpen.{NnrsExpr-F}
use Rattle.qc_nnrs.specs.declared.tree.NnrsExpr.TheViews as expr_views
use Rattle.qc_nnrs.specs.declared.tree.NnrsExpr.TheViews.{roll-NnrsExpr}
use Rattle.qc_nnrs.specs.declared.tree.NnrsExpr.TheFolds.{fold-NnrsExpr, fold-roll-NnrsExpr, map-NnrsExpr}
use Rattle.qc_nnrs.specs.declared.tree.NnrsStmt.{NnrsStmt}
use Rattle.qc_nnrs.specs.declared.tree.NnrsStmt.TheVariants as stmt
use Rattle.qc_nnrs.specs.declared.tree.NnrsStmt.TheOpen.{NnrsStmt-F}
use Rattle.qc_nnrs.specs.declared.tree.NnrsStmt.TheViews as stmt_views
use Rattle.qc_nnrs.specs.declared.tree.NnrsStmt.TheViews.{roll-NnrsStmt}
use Rattle.qc_nnrs.specs.declared.tree.NnrsStmt.TheFolds.{fold-NnrsStmt, fold-roll-NnrsStmt, map-NnrsStmt}

module _ (A : Type 0) (form : NnrsExpr-F A → A) where
  abbrev of : NnrsExpr → A
  of e = fold-NnrsExpr A form e

  layer : (x : NnrsExpr-F NnrsExpr) (t : NnrsExpr) → roll-NnrsExpr x ≡ t → of t ≡ form (map-NnrsExpr NnrsExpr A of x)
  layer x t is = ap of (sym is) ∙ fold-roll-NnrsExpr A form x

  pub of-Var : (x : ℕ) → of (expr.Var x) ≡ form (NnrsExpr-F.Var x)
  of-Var x = layer (NnrsExpr-F.Var x) (expr.Var x) (search (rules, expr_views.the_lemmas))

  pub of-Const : (d : Datum) → of (expr.Const d) ≡ form (NnrsExpr-F.Const d)
  of-Const d = layer (NnrsExpr-F.Const d) (expr.Const d) (search (rules, expr_views.the_lemmas))

  pub of-Global : (name : List ℕ) → of (expr.Global name) ≡ form (NnrsExpr-F.Global name)
  of-Global name = layer (NnrsExpr-F.Global name) (expr.Global name) (search (rules, expr_views.the_lemmas))

  pub of-Unary : (op : Unary) (a : NnrsExpr) → of (expr.Unary op a) ≡ form (NnrsExpr-F.Unary op (of a))
  of-Unary op a = layer (NnrsExpr-F.Unary op a) (expr.Unary op a) (search (rules, expr_views.the_lemmas))

  pub of-Binary : (op : Binary) (a b : NnrsExpr)
      → of (expr.Binary op a b) ≡ form (NnrsExpr-F.Binary op (of a) (of b))
  of-Binary op a b = layer (NnrsExpr-F.Binary op a b) (expr.Binary op a b) (search (rules, expr_views.the_lemmas))

module _ (A : Type 0) (form : NnrsStmt-F A → A) where
  abbrev of_stmt : NnrsStmt → A
  of_stmt s = fold-NnrsStmt A form s

  stmt_layer : (x : NnrsStmt-F NnrsStmt) (t : NnrsStmt) → roll-NnrsStmt x ≡ t
      → of_stmt t ≡ form (map-NnrsStmt NnrsStmt A of_stmt x)
  stmt_layer x t is = ap of_stmt (sym is) ∙ fold-roll-NnrsStmt A form x

  pub of-Let : (n : ℕ) (x : NnrsExpr) (s : NnrsStmt) → of_stmt (stmt.Let n x s) ≡ form (NnrsStmt-F.Let n x (of_stmt s))
  of-Let n x s = stmt_layer (NnrsStmt-F.Let n x s) (stmt.Let n x s) (search (rules, stmt_views.the_lemmas))

  pub of-LetMut : (n : ℕ) (a s : NnrsStmt)
      → of_stmt (stmt.LetMut n a s) ≡ form (NnrsStmt-F.LetMut n (of_stmt a) (of_stmt s))
  of-LetMut n a s = stmt_layer (NnrsStmt-F.LetMut n a s) (stmt.LetMut n a s) (search (rules, stmt_views.the_lemmas))

  pub of-LetColl : (n : ℕ) (a s : NnrsStmt)
      → of_stmt (stmt.LetColl n a s) ≡ form (NnrsStmt-F.LetColl n (of_stmt a) (of_stmt s))
  of-LetColl n a s = stmt_layer (NnrsStmt-F.LetColl n a s) (stmt.LetColl n a s) (search (rules, stmt_views.the_lemmas))

  pub of-Set : (n : ℕ) (x : NnrsExpr) → of_stmt (stmt.Set n x) ≡ form (NnrsStmt-F.Set n x)
  of-Set n x = stmt_layer (NnrsStmt-F.Set n x) (stmt.Set n x) (search (rules, stmt_views.the_lemmas))

  pub of-Push : (n : ℕ) (x : NnrsExpr) → of_stmt (stmt.Push n x) ≡ form (NnrsStmt-F.Push n x)
  of-Push n x = stmt_layer (NnrsStmt-F.Push n x) (stmt.Push n x) (search (rules, stmt_views.the_lemmas))

  pub of-For : (n : ℕ) (x : NnrsExpr) (s : NnrsStmt) → of_stmt (stmt.For n x s) ≡ form (NnrsStmt-F.For n x (of_stmt s))
  of-For n x s = stmt_layer (NnrsStmt-F.For n x s) (stmt.For n x s) (search (rules, stmt_views.the_lemmas))

  pub of-If : (x : NnrsExpr) (a b : NnrsStmt)
      → of_stmt (stmt.If x a b) ≡ form (NnrsStmt-F.If x (of_stmt a) (of_stmt b))
  of-If x a b = stmt_layer (NnrsStmt-F.If x a b) (stmt.If x a b) (search (rules, stmt_views.the_lemmas))

  pub of-Either : (x : NnrsExpr) (n : ℕ) (a : NnrsStmt) (k : ℕ) (b : NnrsStmt)
      → of_stmt (stmt.Either x n a k b) ≡ form (NnrsStmt-F.Either x n (of_stmt a) k (of_stmt b))
  of-Either x n a k b =
      stmt_layer (NnrsStmt-F.Either x n a k b) (stmt.Either x n a k b) (search (rules, stmt_views.the_lemmas))
