-- What is defined form by form over programs, at each form.
use Rattle.std.proofs.Common.{◌≡◌, ℕ, List, map, rules, sym, ap, ◌∙◌}
use Rattle.qc_data.specs.declared.data.Datum.{Datum}
use Rattle.qc_ops.specs.declared.op.Binary.{Binary}
use Rattle.qc_ops.specs.declared.op.Unary.{Unary}
use Rattle.qc_imp.specs.declared.tree.ImpExpr.{ImpExpr}
use Rattle.qc_imp.specs.declared.tree.ImpExpr.TheVariants as expr
use Rattle.qc_imp.specs.declared.tree.ImpExpr.TheOpen.{ImpExpr-F}
use Rattle.qc_imp.specs.declared.tree.ImpExpr.TheViews.{roll-ImpExpr, the_lemmas as expr_lemmas}
use Rattle.qc_imp.specs.declared.tree.ImpExpr.TheFolds.{fold-ImpExpr, fold-roll-ImpExpr, map-ImpExpr}
use Rattle.qc_imp.specs.declared.tree.ImpStmt.{ImpStmt}
use Rattle.qc_imp.specs.declared.tree.ImpStmt.TheVariants as stmt
use Rattle.qc_imp.specs.declared.tree.ImpStmt.TheOpen.{ImpStmt-F}
use Rattle.qc_imp.specs.declared.tree.ImpStmt.TheViews.{out-ImpStmt, roll-ImpStmt, the_lemmas as stmt_lemmas}
use Rattle.qc_imp.specs.declared.tree.ImpStmt.TheFolds.{fold-ImpStmt, fold-roll-ImpStmt, map-ImpStmt}

-- two functions that are the same, at one argument
pub applied : {A B : Type 0} (p q : A → B) (x : A) → p ≡ q → p x ≡ q x
applied p q x e = ap (λ f. f x) e

-- ---- expressions

module _ (A : Type 0) (form : ImpExpr-F A → A) where
  abbrev of_expr : ImpExpr → A
  of_expr e = fold-ImpExpr A form e

  expr_layer : (x : ImpExpr-F ImpExpr) (e : ImpExpr) → roll-ImpExpr x ≡ e
      → of_expr e ≡ form (map-ImpExpr ImpExpr A of_expr x)
  expr_layer x e is = ap of_expr (sym is) ∙ fold-roll-ImpExpr A form x

  pub of-Var : (x : ℕ) → of_expr (expr.Var x) ≡ form (ImpExpr-F.Var x)
  of-Var x = expr_layer (ImpExpr-F.Var x) (expr.Var x) (search (rules, expr_lemmas))

  pub of-Const : (d : Datum) → of_expr (expr.Const d) ≡ form (ImpExpr-F.Const d)
  of-Const d = expr_layer (ImpExpr-F.Const d) (expr.Const d) (search (rules, expr_lemmas))

  pub of-Global : (name : List ℕ) → of_expr (expr.Global name) ≡ form (ImpExpr-F.Global name)
  of-Global name = expr_layer (ImpExpr-F.Global name) (expr.Global name) (search (rules, expr_lemmas))

  pub of-Unary : (op : Unary) (a : ImpExpr) → of_expr (expr.Unary op a) ≡ form (ImpExpr-F.Unary op (of_expr a))
  of-Unary op a = expr_layer (ImpExpr-F.Unary op a) (expr.Unary op a) (search (rules, expr_lemmas))

  pub of-Binary : (op : Binary) (a b : ImpExpr)
      → of_expr (expr.Binary op a b) ≡ form (ImpExpr-F.Binary op (of_expr a) (of_expr b))
  of-Binary op a b = expr_layer (ImpExpr-F.Binary op a b) (expr.Binary op a b) (search (rules, expr_lemmas))

  pub of-IsLeft : (a : ImpExpr) → of_expr (expr.IsLeft a) ≡ form (ImpExpr-F.IsLeft (of_expr a))
  of-IsLeft a = expr_layer (ImpExpr-F.IsLeft a) (expr.IsLeft a) (search (rules, expr_lemmas))

  pub of-Payload : (a : ImpExpr) → of_expr (expr.Payload a) ≡ form (ImpExpr-F.Payload (of_expr a))
  of-Payload a = expr_layer (ImpExpr-F.Payload a) (expr.Payload a) (search (rules, expr_lemmas))

-- ---- statements

module _ (A : Type 0) (form : ImpStmt-F A → A) where
  abbrev of_stmt : ImpStmt → A
  of_stmt s = fold-ImpStmt A form s

  stmt_layer : (x : ImpStmt-F ImpStmt) (s : ImpStmt) → roll-ImpStmt x ≡ s
      → of_stmt s ≡ form (map-ImpStmt ImpStmt A of_stmt x)
  stmt_layer x s is = ap of_stmt (sym is) ∙ fold-roll-ImpStmt A form x

  pub of-Block : (parts : List ImpStmt) → of_stmt (stmt.Block parts) ≡ form (ImpStmt-F.Block (map of_stmt parts))
  of-Block parts = stmt_layer (ImpStmt-F.Block parts) (stmt.Block parts) (search (rules, stmt_lemmas))

  pub of-Declared : (x : ℕ) → of_stmt (stmt.Var x) ≡ form (ImpStmt-F.Var x)
  of-Declared x = stmt_layer (ImpStmt-F.Var x) (stmt.Var x) (search (rules, stmt_lemmas))

  pub of-Val : (x : ℕ) (e : ImpExpr) → of_stmt (stmt.Val x e) ≡ form (ImpStmt-F.Val x e)
  of-Val x e = stmt_layer (ImpStmt-F.Val x e) (stmt.Val x e) (search (rules, stmt_lemmas))

  pub of-Set : (x : ℕ) (e : ImpExpr) → of_stmt (stmt.Set x e) ≡ form (ImpStmt-F.Set x e)
  of-Set x e = stmt_layer (ImpStmt-F.Set x e) (stmt.Set x e) (search (rules, stmt_lemmas))

  pub of-Collect : (x : ℕ) (parts : List ImpStmt)
      → of_stmt (stmt.Collect x parts) ≡ form (ImpStmt-F.Collect x (map of_stmt parts))
  of-Collect x parts = stmt_layer (ImpStmt-F.Collect x parts) (stmt.Collect x parts) (search (rules, stmt_lemmas))

  pub of-Push : (x : ℕ) (e : ImpExpr) → of_stmt (stmt.Push x e) ≡ form (ImpStmt-F.Push x e)
  of-Push x e = stmt_layer (ImpStmt-F.Push x e) (stmt.Push x e) (search (rules, stmt_lemmas))

  pub of-For : (x : ℕ) (e : ImpExpr) (a : ImpStmt)
      → of_stmt (stmt.For x e a) ≡ form (ImpStmt-F.For x e (of_stmt a))
  of-For x e a = stmt_layer (ImpStmt-F.For x e a) (stmt.For x e a) (search (rules, stmt_lemmas))

  pub of-If : (e : ImpExpr) (a b : ImpStmt)
      → of_stmt (stmt.If e a b) ≡ form (ImpStmt-F.If e (of_stmt a) (of_stmt b))
  of-If e a b = stmt_layer (ImpStmt-F.If e a b) (stmt.If e a b) (search (rules, stmt_lemmas))

-- the outermost layer of a block
pub out-Block : (parts : List ImpStmt) → out-ImpStmt (stmt.Block parts) ≡ ImpStmt-F.Block parts
out-Block parts = search (rules, stmt_lemmas)
