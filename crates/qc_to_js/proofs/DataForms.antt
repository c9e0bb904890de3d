-- What the expressions and statements of programs over data mean, and where they fit, by their variants.
use Rattle.std.proofs.Common.{◌≡◌, ◌∙◌, ℕ, Bool, true, false, List, ◌∷◌, map, ap, sym, None}
use Rattle.std.specs.Prelude.{◌&&◌, cond, is_some, option_and_then}
use Rattle.qc_data.specs.Kinds.{as_coll}
use Rattle.qc_data.specs.Outcome.{Mode, Value, and_then}
use Rattle.qc_data.specs.declared.data.Datum.{Datum}
use Rattle.qc_data.specs.declared.data.Datum.TheVariants.{Bool as Truth}
use Rattle.qc_ops.specs.Operands.{found}
use Rattle.qc_ops.specs.Operators.{binary, unary}
use Rattle.qc_ops.specs.Sides.{by_side}
use Rattle.qc_ops.specs.declared.op.Unary.{Unary}
use Rattle.qc_ops.specs.declared.op.Binary.{Binary}
use Rattle.qc_trees.specs.Branches.{truth}
use Rattle.qc_types.specs.Schemas.{WorldOf, global}
use Rattle.qc_imp.specs.declared.tree.ImpExpr.{ImpExpr}
use Rattle.qc_imp.specs.declared.tree.ImpExpr.TheOpen.{ImpExpr-F}
use Rattle.qc_imp.specs.declared.tree.ImpExpr.TheViews.{roll-ImpExpr}
use Rattle.qc_imp.specs.declared.tree.ImpExpr.TheFolds.{fold-roll-ImpExpr, map-ImpExpr}
use Rattle.qc_imp.specs.declared.tree.ImpExpr.TheVariants as tree
use Rattle.qc_imp.specs.declared.tree.ImpStmt.{ImpStmt}
use Rattle.qc_imp.specs.declared.tree.ImpStmt.TheOpen.{ImpStmt-F}
use Rattle.qc_imp.specs.declared.tree.ImpStmt.TheViews.{roll-ImpStmt}
use Rattle.qc_imp.specs.declared.tree.ImpStmt.TheFolds.{fold-roll-ImpStmt, map-ImpStmt}
use Rattle.qc_imp.specs.declared.tree.ImpStmt.TheVariants as statement
use Rattle.qc_imp.specs.Meaning.{Constant, Meaning, Reading, Settable, Store, all_of, cell_of, changed, collected, expr}
use Rattle.qc_imp.specs.Meaning.{expr_form, for_each, form, pushed_to, scoped, set_to, stmt, value_in, with_constant}
use Rattle.qc_imp.specs.WellFormed.{Pushable, Readable, Scope, Scoping, all_fit, class_of, declared, expr_fits}
use Rattle.qc_imp.specs.WellFormed.{fits_expr, fits_stmt, may_push, may_read, may_set, only, part_fits, stmt_fits}
use Rattle.qc_imp.specs.WellFormed.{Settable as MaySet}

-- ---- expressions

module _ (m : Mode) (w : WorldOf) (st : Store) where
  expr_layer_is : (x : ImpExpr-F ImpExpr)
      → expr m w (roll-ImpExpr x) st ≡ expr_form m w (map-ImpExpr ImpExpr Reading (expr m w) x) st
  expr_layer_is x = ap (λ (r : Reading). r st) (fold-roll-ImpExpr Reading (expr_form m w) x)

  pub expr-Var : (x : ℕ) → expr m w (tree.Var x) st ≡ found (value_in (cell_of x st))
  expr-Var x = ap (λ e. expr m w e st) (sym (tree.rolls-Var x)) ∙ expr_layer_is (ImpExpr-F.Var x)

  pub expr-Const : (d : Datum) → expr m w (tree.Const d) st ≡ Value d
  expr-Const d = ap (λ e. expr m w e st) (sym (tree.rolls-Const d)) ∙ expr_layer_is (ImpExpr-F.Const d)

  pub expr-Global : (n : List ℕ) → expr m w (tree.Global n) st ≡ found (global n w.datum)
  expr-Global n = ap (λ e. expr m w e st) (sym (tree.rolls-Global n)) ∙ expr_layer_is (ImpExpr-F.Global n)

  pub expr-Unary : (op : Unary) (a : ImpExpr)
      → expr m w (tree.Unary op a) st ≡ and_then (expr m w a st) (unary m w.classes op)
  expr-Unary op a = ap (λ e. expr m w e st) (sym (tree.rolls-Unary op a)) ∙ expr_layer_is (ImpExpr-F.Unary op a)

  pub expr-Binary : (op : Binary) (a b : ImpExpr)
      → expr m w (tree.Binary op a b) st
      ≡ and_then (expr m w a st) (λ u. and_then (expr m w b st) (λ v. binary m op u v))
  expr-Binary op a b =
      ap (λ e. expr m w e st) (sym (tree.rolls-Binary op a b)) ∙ expr_layer_is (ImpExpr-F.Binary op a b)

  pub expr-IsLeft : (a : ImpExpr) → expr m w (tree.IsLeft a) st
      ≡ and_then (expr m w a st) (by_side (λ d. Value (Truth true)) (λ d. Value (Truth false)))
  expr-IsLeft a = ap (λ e. expr m w e st) (sym (tree.rolls-IsLeft a)) ∙ expr_layer_is (ImpExpr-F.IsLeft a)

  pub expr-Payload : (a : ImpExpr) → expr m w (tree.Payload a) st
      ≡ and_then (expr m w a st) (by_side (λ d. Value d) (λ d. Value d))
  expr-Payload a = ap (λ e. expr m w e st) (sym (tree.rolls-Payload a)) ∙ expr_layer_is (ImpExpr-F.Payload a)

module _ (s : Scope) where
  fits_layer_is : (x : ImpExpr-F ImpExpr)
      → fits_expr (roll-ImpExpr x) s ≡ expr_fits (map-ImpExpr ImpExpr (Scope → Bool) fits_expr x) s
  fits_layer_is x = ap (λ (f : Scope → Bool). f s) (fold-roll-ImpExpr (Scope → Bool) expr_fits x)

  pub fits-Var : (x : ℕ) → fits_expr (tree.Var x) s ≡ may_read (class_of x s)
  fits-Var x = ap (λ e. fits_expr e s) (sym (tree.rolls-Var x)) ∙ fits_layer_is (ImpExpr-F.Var x)

  pub fits-Unary : (op : Unary) (a : ImpExpr) → fits_expr (tree.Unary op a) s ≡ fits_expr a s
  fits-Unary op a = ap (λ e. fits_expr e s) (sym (tree.rolls-Unary op a)) ∙ fits_layer_is (ImpExpr-F.Unary op a)

  pub fits-Binary : (op : Binary) (a b : ImpExpr)
      → fits_expr (tree.Binary op a b) s ≡ (fits_expr a s && fits_expr b s)
  fits-Binary op a b =
      ap (λ e. fits_expr e s) (sym (tree.rolls-Binary op a b)) ∙ fits_layer_is (ImpExpr-F.Binary op a b)

  pub fits-IsLeft : (a : ImpExpr) → fits_expr (tree.IsLeft a) s ≡ fits_expr a s
  fits-IsLeft a = ap (λ e. fits_expr e s) (sym (tree.rolls-IsLeft a)) ∙ fits_layer_is (ImpExpr-F.IsLeft a)

  pub fits-Payload : (a : ImpExpr) → fits_expr (tree.Payload a) s ≡ fits_expr a s
  fits-Payload a = ap (λ e. fits_expr e s) (sym (tree.rolls-Payload a)) ∙ fits_layer_is (ImpExpr-F.Payload a)

-- ---- statements

module _ (m : Mode) (w : WorldOf) (st : Store) where
  stmt_layer_is : (x : ImpStmt-F ImpStmt)
      → stmt m w (roll-ImpStmt x) st ≡ form m w (map-ImpStmt ImpStmt Meaning (stmt m w) x) st
  stmt_layer_is x = ap (λ (r : Meaning). r st) (fold-roll-ImpStmt Meaning (form m w) x)

  pub stmt-Block : (ss : List ImpStmt) → stmt m w (statement.Block ss) st ≡ scoped (all_of (map (stmt m w) ss)) st
  stmt-Block ss = ap (λ s. stmt m w s st) (sym (statement.rolls-Block ss)) ∙ stmt_layer_is (ImpStmt-F.Block ss)

  pub stmt-Var : (x : ℕ) → stmt m w (statement.Var x) st ≡ Value ((x, Settable None) ∷ st)
  stmt-Var x = ap (λ s. stmt m w s st) (sym (statement.rolls-Var x)) ∙ stmt_layer_is (ImpStmt-F.Var x)

  pub stmt-Val : (x : ℕ) (e : ImpExpr) → stmt m w (statement.Val x e) st
      ≡ and_then (expr m w e st) (λ d. Value ((x, Constant d) ∷ st))
  stmt-Val x e = ap (λ s. stmt m w s st) (sym (statement.rolls-Val x e)) ∙ stmt_layer_is (ImpStmt-F.Val x e)

  pub stmt-Set : (x : ℕ) (e : ImpExpr) → stmt m w (statement.Set x e) st
      ≡ and_then (expr m w e st) (λ d. changed (set_to d) x st)
  stmt-Set x e = ap (λ s. stmt m w s st) (sym (statement.rolls-Set x e)) ∙ stmt_layer_is (ImpStmt-F.Set x e)

  pub stmt-Collect : (x : ℕ) (ss : List ImpStmt) → stmt m w (statement.Collect x ss) st
      ≡ collected x (all_of (map (stmt m w) ss)) st
  stmt-Collect x ss =
      ap (λ s. stmt m w s st) (sym (statement.rolls-Collect x ss)) ∙ stmt_layer_is (ImpStmt-F.Collect x ss)

  pub stmt-Push : (x : ℕ) (e : ImpExpr) → stmt m w (statement.Push x e) st
      ≡ and_then (expr m w e st) (λ d. changed (pushed_to d) x st)
  stmt-Push x e = ap (λ s. stmt m w s st) (sym (statement.rolls-Push x e)) ∙ stmt_layer_is (ImpStmt-F.Push x e)

  pub stmt-For : (x : ℕ) (e : ImpExpr) (a : ImpStmt) → stmt m w (statement.For x e a) st
      ≡ and_then (expr m w e st) (λ v. and_then (as_coll v) (λ ds. for_each (with_constant x (stmt m w a)) ds st))
  stmt-For x e a = ap (λ s. stmt m w s st) (sym (statement.rolls-For x e a)) ∙ stmt_layer_is (ImpStmt-F.For x e a)

  pub stmt-If : (e : ImpExpr) (a b : ImpStmt) → stmt m w (statement.If e a b) st
      ≡ and_then (truth (expr m w e st)) (λ holds. cond holds (scoped (stmt m w a) st) (scoped (stmt m w b) st))
  stmt-If e a b = ap (λ s. stmt m w s st) (sym (statement.rolls-If e a b)) ∙ stmt_layer_is (ImpStmt-F.If e a b)

module _ (s : Scope) where
  rule_layer_is : (x : ImpStmt-F ImpStmt)
      → fits_stmt (roll-ImpStmt x) s ≡ stmt_fits (map-ImpStmt ImpStmt Scoping fits_stmt x) s
  rule_layer_is x = ap (λ (r : Scoping). r s) (fold-roll-ImpStmt Scoping stmt_fits x)

  pub fits-Block : (ss : List ImpStmt) → fits_stmt (statement.Block ss) s
      ≡ only (is_some (all_fit (map fits_stmt ss) s)) s
  fits-Block ss = ap (λ a. fits_stmt a s) (sym (statement.rolls-Block ss)) ∙ rule_layer_is (ImpStmt-F.Block ss)

  pub fits-declared : (x : ℕ) → fits_stmt (statement.Var x) s ≡ declared x MaySet s
  fits-declared x = ap (λ a. fits_stmt a s) (sym (statement.rolls-Var x)) ∙ rule_layer_is (ImpStmt-F.Var x)

  pub fits-Val : (x : ℕ) (e : ImpExpr) → fits_stmt (statement.Val x e) s
      ≡ cond (fits_expr e s) (declared x Readable s) None
  fits-Val x e = ap (λ a. fits_stmt a s) (sym (statement.rolls-Val x e)) ∙ rule_layer_is (ImpStmt-F.Val x e)

  pub fits-Set : (x : ℕ) (e : ImpExpr) → fits_stmt (statement.Set x e) s
      ≡ only (may_set (class_of x s) && fits_expr e s) s
  fits-Set x e = ap (λ a. fits_stmt a s) (sym (statement.rolls-Set x e)) ∙ rule_layer_is (ImpStmt-F.Set x e)

  pub fits-Collect : (x : ℕ) (ss : List ImpStmt) → fits_stmt (statement.Collect x ss) s
      ≡ cond (is_some (option_and_then (all_fit (map fits_stmt ss)) (declared x Pushable s)))
      (declared x Readable s) None
  fits-Collect x ss =
      ap (λ a. fits_stmt a s) (sym (statement.rolls-Collect x ss)) ∙ rule_layer_is (ImpStmt-F.Collect x ss)

  pub fits-Push : (x : ℕ) (e : ImpExpr) → fits_stmt (statement.Push x e) s
      ≡ only (may_push (class_of x s) && fits_expr e s) s
  fits-Push x e = ap (λ a. fits_stmt a s) (sym (statement.rolls-Push x e)) ∙ rule_layer_is (ImpStmt-F.Push x e)

  pub fits-For : (x : ℕ) (e : ImpExpr) (a : ImpStmt) → fits_stmt (statement.For x e a) s
      ≡ only (fits_expr e s && is_some (option_and_then (fits_stmt a) (declared x Readable s))) s
  fits-For x e a = ap (λ a. fits_stmt a s) (sym (statement.rolls-For x e a)) ∙ rule_layer_is (ImpStmt-F.For x e a)

  pub fits-If : (e : ImpExpr) (a b : ImpStmt) → fits_stmt (statement.If e a b) s
      ≡ only (fits_expr e s && (part_fits (fits_stmt a) s && part_fits (fits_stmt b) s)) s
  fits-If e a b = ap (λ a. fits_stmt a s) (sym (statement.rolls-If e a b)) ∙ rule_layer_is (ImpStmt-F.If e a b)
