-- What the expressions and statements of programs on JSON mean, and which rules they meet, by their variants.
use Rattle.std.proofs.Common.{◌≡◌, ◌∙◌, ℕ, ℤ, Bool, true, false, List, ◌∷◌, map, length, ap, sym}
use Rattle.std.specs.Prelude.{◌==◌, ◌&&◌, cond, None}
use Rattle.qc_data.specs.Kinds.{json_array}
use Rattle.qc_data.specs.Outcome.{Mode, Value, and_then}
use Rattle.qc_data.specs.declared.data.Json.{Json}
use Rattle.qc_data.specs.declared.data.Json.TheVariants as json
use Rattle.qc_rt.specs.Runtime.{runtime}
use Rattle.qc_rt.specs.Table.{arguments_of}
use Rattle.qc_rt.specs.declared.function.Rt.{Rt}
use Rattle.qc_js.specs.declared.scope.Class.TheVariants.{Settable as MaySet}
use Rattle.qc_js.specs.declared.tree.Expr.{Expr}
use Rattle.qc_js.specs.declared.tree.Expr.TheOpen.{Expr-F}
use Rattle.qc_js.specs.declared.tree.Expr.TheViews.{roll-Expr}
use Rattle.qc_js.specs.declared.tree.Expr.TheFolds.{fold-roll-Expr, map-Expr}
use Rattle.qc_js.specs.declared.tree.Expr.TheVariants as tree
use Rattle.qc_js.specs.declared.tree.Stmt.{Stmt}
use Rattle.qc_js.specs.declared.tree.Stmt.TheOpen.{Stmt-F}
use Rattle.qc_js.specs.declared.tree.Stmt.TheViews.{roll-Stmt}
use Rattle.qc_js.specs.declared.tree.Stmt.TheFolds.{fold-roll-Stmt, map-Stmt}
use Rattle.qc_js.specs.declared.tree.Stmt.TheVariants as statement
use Rattle.qc_js.specs.Held.{all_true}
use Rattle.qc_js.specs.Meaning.{Meaning, Reading, Settable, Constant, Store, cell_of, changed, collected, expr}
use Rattle.qc_js.specs.Meaning.{expr_form, for_each, form, found, pushed_to, scoped, set_to, stmt, truth, value_in}
use Rattle.qc_js.specs.Meaning.{values_of, with_constant}
use Rattle.qc_js.specs.WellFormed.{Rule, Scope, bare_layer, block_rule, class_of, collect_rule, const_rule, declared}
use Rattle.qc_js.specs.WellFormed.{expr_fits, expr_layer, for_rule, if_rule, is_bare, may_read, push_rule, rule}
use Rattle.qc_js.specs.WellFormed.{rule_layer, set_rule}

-- ---- expressions

module _ (m : Mode) (w : Json) (st : Store) where
  expr_layer_is : (x : Expr-F Expr)
      → expr m w (roll-Expr x) st ≡ expr_form m w (map-Expr Expr Reading (expr m w) x) st
  expr_layer_is x = ap (λ (r : Reading). r st) (fold-roll-Expr Reading (expr_form m w) x)

  pub expr-Var : (x : ℕ) → expr m w (tree.Var x) st ≡ found (value_in (cell_of x st))
  expr-Var x = ap (λ e. expr m w e st) (sym (tree.rolls-Var x)) ∙ expr_layer_is (Expr-F.Var x)

  pub expr-World : expr m w tree.World st ≡ Value w
  expr-World = ap (λ e. expr m w e st) (sym tree.rolls-World) ∙ expr_layer_is Expr-F.World

  pub expr-True : expr m w tree.True st ≡ Value (json.Bool true)
  expr-True = ap (λ e. expr m w e st) (sym tree.rolls-True) ∙ expr_layer_is Expr-F.True

  pub expr-False : expr m w tree.False st ≡ Value (json.Bool false)
  expr-False = ap (λ e. expr m w e st) (sym tree.rolls-False) ∙ expr_layer_is Expr-F.False

  pub expr-Null : expr m w tree.Null st ≡ Value json.Null
  expr-Null = ap (λ e. expr m w e st) (sym tree.rolls-Null) ∙ expr_layer_is Expr-F.Null

  pub expr-Int : (n : ℤ) → expr m w (tree.Int n) st ≡ Value (json.Int n)
  expr-Int n = ap (λ e. expr m w e st) (sym (tree.rolls-Int n)) ∙ expr_layer_is (Expr-F.Int n)

  pub expr-Text : (t : List ℕ) → expr m w (tree.Text t) st ≡ Value (json.Text t)
  expr-Text t = ap (λ e. expr m w e st) (sym (tree.rolls-Text t)) ∙ expr_layer_is (Expr-F.Text t)

  pub expr-Array : (es : List Expr) → expr m w (tree.Array es) st
      ≡ and_then (values_of (map (expr m w) es) st) (λ js. Value (json.Array js))
  expr-Array es = ap (λ e. expr m w e st) (sym (tree.rolls-Array es)) ∙ expr_layer_is (Expr-F.Array es)

  pub expr-Call : (f : Rt) (es : List Expr) → expr m w (tree.Call f es) st
      ≡ and_then (values_of (map (expr m w) es) st) (runtime m f)
  expr-Call f es = ap (λ e. expr m w e st) (sym (tree.rolls-Call f es)) ∙ expr_layer_is (Expr-F.Call f es)

module _ (s : Scope) where
  fits_layer_is : (x : Expr-F Expr) → expr_fits s (roll-Expr x) ≡ expr_layer s (map-Expr Expr Bool (expr_fits s) x)
  fits_layer_is x = fold-roll-Expr Bool (expr_layer s) x

  pub fits-Var : (x : ℕ) → expr_fits s (tree.Var x) ≡ may_read (class_of x s)
  fits-Var x = ap (expr_fits s) (sym (tree.rolls-Var x)) ∙ fits_layer_is (Expr-F.Var x)

  pub fits-World : expr_fits s tree.World ≡ true
  fits-World = ap (expr_fits s) (sym tree.rolls-World) ∙ fits_layer_is Expr-F.World

  pub fits-True : expr_fits s tree.True ≡ true
  fits-True = ap (expr_fits s) (sym tree.rolls-True) ∙ fits_layer_is Expr-F.True

  pub fits-False : expr_fits s tree.False ≡ true
  fits-False = ap (expr_fits s) (sym tree.rolls-False) ∙ fits_layer_is Expr-F.False

  pub fits-Null : expr_fits s tree.Null ≡ true
  fits-Null = ap (expr_fits s) (sym tree.rolls-Null) ∙ fits_layer_is Expr-F.Null

  pub fits-Int : (n : ℤ) → expr_fits s (tree.Int n) ≡ true
  fits-Int n = ap (expr_fits s) (sym (tree.rolls-Int n)) ∙ fits_layer_is (Expr-F.Int n)

  pub fits-Text : (t : List ℕ) → expr_fits s (tree.Text t) ≡ true
  fits-Text t = ap (expr_fits s) (sym (tree.rolls-Text t)) ∙ fits_layer_is (Expr-F.Text t)

  pub fits-Array : (es : List Expr) → expr_fits s (tree.Array es) ≡ all_true (map (expr_fits s) es)
  fits-Array es = ap (expr_fits s) (sym (tree.rolls-Array es)) ∙ fits_layer_is (Expr-F.Array es)

  pub fits-Call : (f : Rt) (es : List Expr) → expr_fits s (tree.Call f es)
      ≡ ((length (map (expr_fits s) es) == arguments_of f) && all_true (map (expr_fits s) es))
  fits-Call f es = ap (expr_fits s) (sym (tree.rolls-Call f es)) ∙ fits_layer_is (Expr-F.Call f es)

-- only an array may be []
bare_layer_is : (x : Expr-F Expr) → is_bare (roll-Expr x) ≡ bare_layer (map-Expr Expr Bool is_bare x)
bare_layer_is x = fold-roll-Expr Bool bare_layer x

pub bare-Var : (x : ℕ) → is_bare (tree.Var x) ≡ false
bare-Var x = ap is_bare (sym (tree.rolls-Var x)) ∙ bare_layer_is (Expr-F.Var x)

pub bare-True : is_bare tree.True ≡ false
bare-True = ap is_bare (sym tree.rolls-True) ∙ bare_layer_is Expr-F.True

pub bare-False : is_bare tree.False ≡ false
bare-False = ap is_bare (sym tree.rolls-False) ∙ bare_layer_is Expr-F.False

pub bare-Null : is_bare tree.Null ≡ false
bare-Null = ap is_bare (sym tree.rolls-Null) ∙ bare_layer_is Expr-F.Null

pub bare-Int : (n : ℤ) → is_bare (tree.Int n) ≡ false
bare-Int n = ap is_bare (sym (tree.rolls-Int n)) ∙ bare_layer_is (Expr-F.Int n)

pub bare-Text : (t : List ℕ) → is_bare (tree.Text t) ≡ false
bare-Text t = ap is_bare (sym (tree.rolls-Text t)) ∙ bare_layer_is (Expr-F.Text t)

pub bare-Call : (f : Rt) (es : List Expr) → is_bare (tree.Call f es) ≡ false
bare-Call f es = ap is_bare (sym (tree.rolls-Call f es)) ∙ bare_layer_is (Expr-F.Call f es)

pub bare-more : (e : Expr) (es : List Expr) → is_bare (tree.Array (e ∷ es)) ≡ false
bare-more e es = ap is_bare (sym (tree.rolls-Array (e ∷ es))) ∙ bare_layer_is (Expr-F.Array (e ∷ es))

-- ---- statements

module _ (m : Mode) (w : Json) (st : Store) where
  stmt_layer_is : (x : Stmt-F Stmt) → stmt m w (roll-Stmt x) st ≡ form m w (map-Stmt Stmt Meaning (stmt m w) x) st
  stmt_layer_is x = ap (λ (r : Meaning). r st) (fold-roll-Stmt Meaning (form m w) x)

  pub stmt-Let : (x : ℕ) → stmt m w (statement.Let x) st ≡ Value ((x, Settable None) ∷ st)
  stmt-Let x = ap (λ s. stmt m w s st) (sym (statement.rolls-Let x)) ∙ stmt_layer_is (Stmt-F.Let x)

  pub stmt-Set : (x : ℕ) (e : Expr) → stmt m w (statement.Set x e) st
      ≡ and_then (expr m w e st) (λ j. changed (set_to j) x st)
  stmt-Set x e = ap (λ s. stmt m w s st) (sym (statement.rolls-Set x e)) ∙ stmt_layer_is (Stmt-F.Set x e)

  pub stmt-Const : (x : ℕ) (e : Expr) → stmt m w (statement.Const x e) st
      ≡ and_then (expr m w e st) (λ j. Value ((x, Constant j) ∷ st))
  stmt-Const x e = ap (λ s. stmt m w s st) (sym (statement.rolls-Const x e)) ∙ stmt_layer_is (Stmt-F.Const x e)

  pub stmt-Collect : (x : ℕ) (ss : List Stmt) → stmt m w (statement.Collect x ss) st
      ≡ collected x (map (stmt m w) ss) st
  stmt-Collect x ss = ap (λ s. stmt m w s st) (sym (statement.rolls-Collect x ss)) ∙ stmt_layer_is (Stmt-F.Collect x ss)

  pub stmt-Push : (x : ℕ) (e : Expr) → stmt m w (statement.Push x e) st
      ≡ and_then (expr m w e st) (λ j. changed (pushed_to j) x st)
  stmt-Push x e = ap (λ s. stmt m w s st) (sym (statement.rolls-Push x e)) ∙ stmt_layer_is (Stmt-F.Push x e)

  pub stmt-For : (x : ℕ) (e : Expr) (ss : List Stmt) → stmt m w (statement.For x e ss) st
      ≡ and_then (expr m w e st)
      (λ j. and_then (json_array j) (λ js. for_each (with_constant x (map (stmt m w) ss)) js st))
  stmt-For x e ss = ap (λ s. stmt m w s st) (sym (statement.rolls-For x e ss)) ∙ stmt_layer_is (Stmt-F.For x e ss)

  pub stmt-If : (e : Expr) (ss us : List Stmt) → stmt m w (statement.If e ss us) st
      ≡ and_then (and_then (expr m w e st) truth)
      (λ holds. cond holds (scoped (map (stmt m w) ss) st) (scoped (map (stmt m w) us) st))
  stmt-If e ss us = ap (λ s. stmt m w s st) (sym (statement.rolls-If e ss us)) ∙ stmt_layer_is (Stmt-F.If e ss us)

  pub stmt-Block : (ss : List Stmt) → stmt m w (statement.Block ss) st ≡ scoped (map (stmt m w) ss) st
  stmt-Block ss = ap (λ s. stmt m w s st) (sym (statement.rolls-Block ss)) ∙ stmt_layer_is (Stmt-F.Block ss)

module _ (t : Scope) where
  rule_layer_is : (x : Stmt-F Stmt) → rule (roll-Stmt x) t ≡ rule_layer (map-Stmt Stmt Rule rule x) t
  rule_layer_is x = ap (λ (r : Rule). r t) (fold-roll-Stmt Rule rule_layer x)

  pub rule-Let : (x : ℕ) → rule (statement.Let x) t ≡ declared x MaySet t
  rule-Let x = ap (λ s. rule s t) (sym (statement.rolls-Let x)) ∙ rule_layer_is (Stmt-F.Let x)

  pub rule-Set : (x : ℕ) (e : Expr) → rule (statement.Set x e) t ≡ set_rule x e t
  rule-Set x e = ap (λ s. rule s t) (sym (statement.rolls-Set x e)) ∙ rule_layer_is (Stmt-F.Set x e)

  pub rule-Const : (x : ℕ) (e : Expr) → rule (statement.Const x e) t ≡ const_rule x e t
  rule-Const x e = ap (λ s. rule s t) (sym (statement.rolls-Const x e)) ∙ rule_layer_is (Stmt-F.Const x e)

  pub rule-Collect : (x : ℕ) (ss : List Stmt) → rule (statement.Collect x ss) t ≡ collect_rule x (map rule ss) t
  rule-Collect x ss = ap (λ s. rule s t) (sym (statement.rolls-Collect x ss)) ∙ rule_layer_is (Stmt-F.Collect x ss)

  pub rule-Push : (x : ℕ) (e : Expr) → rule (statement.Push x e) t ≡ push_rule x e t
  rule-Push x e = ap (λ s. rule s t) (sym (statement.rolls-Push x e)) ∙ rule_layer_is (Stmt-F.Push x e)

  pub rule-For : (x : ℕ) (e : Expr) (ss : List Stmt) → rule (statement.For x e ss) t ≡ for_rule x e (map rule ss) t
  rule-For x e ss = ap (λ s. rule s t) (sym (statement.rolls-For x e ss)) ∙ rule_layer_is (Stmt-F.For x e ss)

  pub rule-If : (e : Expr) (ss us : List Stmt) → rule (statement.If e ss us) t ≡ if_rule e (map rule ss) (map rule us) t
  rule-If e ss us = ap (λ s. rule s t) (sym (statement.rolls-If e ss us)) ∙ rule_layer_is (Stmt-F.If e ss us)

  pub rule-Block : (ss : List Stmt) → rule (statement.Block ss) t ≡ block_rule (map rule ss) t
  rule-Block ss = ap (λ s. rule s t) (sym (statement.rolls-Block ss)) ∙ rule_layer_is (Stmt-F.Block ss)
