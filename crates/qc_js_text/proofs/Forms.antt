-- What the lexemes of a tree are at each form, and whether it has no bare constant.
use Rattle.std.proofs.Common.{◌≡◌, ℕ, ℤ, Bool, true, false, ◌&&◌, not, List, [], ◌∷◌, ◌++◌, map, sym, ap, ◌∙◌}
use Rattle.qc_rt.specs.declared.function.Rt.{Rt}
use Rattle.qc_js.specs.declared.tree.Expr.{Expr}
use Rattle.qc_js.specs.declared.tree.Expr.TheOpen.{Expr-F}
use Rattle.qc_js.specs.declared.tree.Expr.TheFolds.{fold-roll-Expr}
use Rattle.qc_js.specs.declared.tree.Expr.TheVariants as expr
use Rattle.qc_js.specs.declared.tree.Stmt.{Stmt}
use Rattle.qc_js.specs.declared.tree.Stmt.TheOpen.{Stmt-F}
use Rattle.qc_js.specs.declared.tree.Stmt.TheFolds.{fold-roll-Stmt}
use Rattle.qc_js.specs.declared.tree.Stmt.TheVariants as stmt
use Rattle.qc_js.specs.Held.{all_true}
use Rattle.qc_js.specs.WellFormed.{is_bare, bare_layer}
use Rattle.qc_js_lex.specs.declared.lexeme.Lexeme.{Lexeme}
use Rattle.qc_js_lex.specs.declared.lexeme.Lexeme.TheVariants.{Var, Function, Int, Text}
use Rattle.qc_js_text.specs.inner.Trees.{world_word, true_word, false_word, null_word, rt_word, let_word, const_word}
use Rattle.qc_js_text.specs.inner.Trees.{push_word, for_word, of_word, if_word, else_word, open_paren, close_paren}
use Rattle.qc_js_text.specs.inner.Trees.{open_square, close_square, semicolon, dot, equals, separated, block_lexemes}
use Rattle.qc_js_text.specs.inner.Trees.{expr_layer, expr_lexemes, stmt_layer, stmt_lexemes, told_layer, is_told}

pub expr-Var : (x : ℕ) → expr_lexemes (expr.Var x) ≡ Var x ∷ []
expr-Var x =
    ap expr_lexemes (sym (expr.rolls-Var x)) ∙ fold-roll-Expr (List Lexeme) expr_layer (Expr-F.Var x)

pub expr-World : expr_lexemes expr.World ≡ world_word ∷ []
expr-World =
    ap expr_lexemes (sym expr.rolls-World) ∙ fold-roll-Expr (List Lexeme) expr_layer Expr-F.World

pub expr-True : expr_lexemes expr.True ≡ true_word ∷ []
expr-True =
    ap expr_lexemes (sym expr.rolls-True) ∙ fold-roll-Expr (List Lexeme) expr_layer Expr-F.True

pub expr-False : expr_lexemes expr.False ≡ false_word ∷ []
expr-False =
    ap expr_lexemes (sym expr.rolls-False) ∙ fold-roll-Expr (List Lexeme) expr_layer Expr-F.False

pub expr-Null : expr_lexemes expr.Null ≡ null_word ∷ []
expr-Null =
    ap expr_lexemes (sym expr.rolls-Null) ∙ fold-roll-Expr (List Lexeme) expr_layer Expr-F.Null

pub expr-Int : (n : ℤ) → expr_lexemes (expr.Int n) ≡ Int n ∷ []
expr-Int n =
    ap expr_lexemes (sym (expr.rolls-Int n)) ∙ fold-roll-Expr (List Lexeme) expr_layer (Expr-F.Int n)

pub expr-Text : (t : List ℕ) → expr_lexemes (expr.Text t) ≡ Text t ∷ []
expr-Text t =
    ap expr_lexemes (sym (expr.rolls-Text t)) ∙ fold-roll-Expr (List Lexeme) expr_layer (Expr-F.Text t)

pub expr-Array : (es : List Expr) → expr_lexemes (expr.Array es)
    ≡ open_square ∷ (separated (map expr_lexemes es) ++ close_square ∷ [])
expr-Array es =
    ap expr_lexemes (sym (expr.rolls-Array es)) ∙ fold-roll-Expr (List Lexeme) expr_layer (Expr-F.Array es)

pub expr-Call : (f : Rt) (es : List Expr)
    → expr_lexemes (expr.Call f es) ≡ rt_word ∷ dot ∷ Function f ∷ open_paren
    ∷ (separated (map expr_lexemes es) ++ close_paren ∷ [])
expr-Call f es =
    ap expr_lexemes (sym (expr.rolls-Call f es)) ∙ fold-roll-Expr (List Lexeme) expr_layer (Expr-F.Call f es)

pub stmt-Let : (x : ℕ) → stmt_lexemes (stmt.Let x) ≡ let_word ∷ Var x ∷ semicolon ∷ []
stmt-Let x =
    ap stmt_lexemes (sym (stmt.rolls-Let x)) ∙ fold-roll-Stmt (List Lexeme) stmt_layer (Stmt-F.Let x)

pub told-Let : (x : ℕ) → is_told (stmt.Let x) ≡ true
told-Let x =
    ap is_told (sym (stmt.rolls-Let x)) ∙ fold-roll-Stmt Bool told_layer (Stmt-F.Let x)

pub stmt-Set : (x : ℕ) (e : Expr) → stmt_lexemes (stmt.Set x e) ≡ Var x ∷ equals ∷ (expr_lexemes e ++ semicolon ∷ [])
stmt-Set x e =
    ap stmt_lexemes (sym (stmt.rolls-Set x e)) ∙ fold-roll-Stmt (List Lexeme) stmt_layer (Stmt-F.Set x e)

pub told-Set : (x : ℕ) (e : Expr) → is_told (stmt.Set x e) ≡ true
told-Set x e =
    ap is_told (sym (stmt.rolls-Set x e)) ∙ fold-roll-Stmt Bool told_layer (Stmt-F.Set x e)

pub stmt-Const : (x : ℕ) (e : Expr) → stmt_lexemes (stmt.Const x e)
    ≡ const_word ∷ Var x ∷ equals ∷ (expr_lexemes e ++ semicolon ∷ [])
stmt-Const x e =
    ap stmt_lexemes (sym (stmt.rolls-Const x e)) ∙ fold-roll-Stmt (List Lexeme) stmt_layer (Stmt-F.Const x e)

pub told-Const : (x : ℕ) (e : Expr) → is_told (stmt.Const x e) ≡ not (is_bare e)
told-Const x e =
    ap is_told (sym (stmt.rolls-Const x e)) ∙ fold-roll-Stmt Bool told_layer (Stmt-F.Const x e)

pub stmt-Collect : (x : ℕ) (ss : List Stmt)
    → stmt_lexemes (stmt.Collect x ss) ≡ const_word ∷ Var x ∷ equals ∷ open_square ∷ close_square ∷ semicolon
    ∷ block_lexemes (map stmt_lexemes ss)
stmt-Collect x ss =
    ap stmt_lexemes (sym (stmt.rolls-Collect x ss)) ∙ fold-roll-Stmt (List Lexeme) stmt_layer (Stmt-F.Collect x ss)

pub told-Collect : (x : ℕ) (ss : List Stmt) → is_told (stmt.Collect x ss) ≡ all_true (map is_told ss)
told-Collect x ss =
    ap is_told (sym (stmt.rolls-Collect x ss)) ∙ fold-roll-Stmt Bool told_layer (Stmt-F.Collect x ss)

pub stmt-Push : (x : ℕ) (e : Expr) → stmt_lexemes (stmt.Push x e)
    ≡ Var x ∷ dot ∷ push_word ∷ open_paren ∷ (expr_lexemes e ++ close_paren ∷ semicolon ∷ [])
stmt-Push x e =
    ap stmt_lexemes (sym (stmt.rolls-Push x e)) ∙ fold-roll-Stmt (List Lexeme) stmt_layer (Stmt-F.Push x e)

pub told-Push : (x : ℕ) (e : Expr) → is_told (stmt.Push x e) ≡ true
told-Push x e =
    ap is_told (sym (stmt.rolls-Push x e)) ∙ fold-roll-Stmt Bool told_layer (Stmt-F.Push x e)

pub stmt-For : (x : ℕ) (e : Expr) (ss : List Stmt)
    → stmt_lexemes (stmt.For x e ss) ≡ for_word ∷ open_paren ∷ const_word ∷ Var x ∷ of_word
    ∷ (expr_lexemes e ++ close_paren ∷ block_lexemes (map stmt_lexemes ss))
stmt-For x e ss =
    ap stmt_lexemes (sym (stmt.rolls-For x e ss)) ∙ fold-roll-Stmt (List Lexeme) stmt_layer (Stmt-F.For x e ss)

pub told-For : (x : ℕ) (e : Expr) (ss : List Stmt) → is_told (stmt.For x e ss) ≡ all_true (map is_told ss)
told-For x e ss =
    ap is_told (sym (stmt.rolls-For x e ss)) ∙ fold-roll-Stmt Bool told_layer (Stmt-F.For x e ss)

pub stmt-If : (e : Expr) (ss us : List Stmt) → stmt_lexemes (stmt.If e ss us) ≡ if_word ∷ open_paren
    ∷ (expr_lexemes e ++ close_paren ∷ (block_lexemes (map stmt_lexemes ss) ++ else_word
    ∷ block_lexemes (map stmt_lexemes us)))
stmt-If e ss us =
    ap stmt_lexemes (sym (stmt.rolls-If e ss us)) ∙ fold-roll-Stmt (List Lexeme) stmt_layer (Stmt-F.If e ss us)

pub told-If : (e : Expr) (ss us : List Stmt)
    → is_told (stmt.If e ss us) ≡ (all_true (map is_told ss) && all_true (map is_told us))
told-If e ss us =
    ap is_told (sym (stmt.rolls-If e ss us)) ∙ fold-roll-Stmt Bool told_layer (Stmt-F.If e ss us)

pub stmt-Block : (ss : List Stmt) → stmt_lexemes (stmt.Block ss) ≡ block_lexemes (map stmt_lexemes ss)
stmt-Block ss =
    ap stmt_lexemes (sym (stmt.rolls-Block ss)) ∙ fold-roll-Stmt (List Lexeme) stmt_layer (Stmt-F.Block ss)

pub told-Block : (ss : List Stmt) → is_told (stmt.Block ss) ≡ all_true (map is_told ss)
told-Block ss =
    ap is_told (sym (stmt.rolls-Block ss)) ∙ fold-roll-Stmt Bool told_layer (Stmt-F.Block ss)

pub bare-Var : (x : ℕ) → is_bare (expr.Var x) ≡ false
bare-Var x =
    ap is_bare (sym (expr.rolls-Var x)) ∙ fold-roll-Expr Bool bare_layer (Expr-F.Var x)

pub bare-World : is_bare expr.World ≡ false
bare-World =
    ap is_bare (sym expr.rolls-World) ∙ fold-roll-Expr Bool bare_layer Expr-F.World

pub bare-True : is_bare expr.True ≡ false
bare-True =
    ap is_bare (sym expr.rolls-True) ∙ fold-roll-Expr Bool bare_layer Expr-F.True

pub bare-False : is_bare expr.False ≡ false
bare-False =
    ap is_bare (sym expr.rolls-False) ∙ fold-roll-Expr Bool bare_layer Expr-F.False

pub bare-Null : is_bare expr.Null ≡ false
bare-Null =
    ap is_bare (sym expr.rolls-Null) ∙ fold-roll-Expr Bool bare_layer Expr-F.Null

pub bare-Int : (n : ℤ) → is_bare (expr.Int n) ≡ false
bare-Int n =
    ap is_bare (sym (expr.rolls-Int n)) ∙ fold-roll-Expr Bool bare_layer (Expr-F.Int n)

pub bare-Text : (t : List ℕ) → is_bare (expr.Text t) ≡ false
bare-Text t =
    ap is_bare (sym (expr.rolls-Text t)) ∙ fold-roll-Expr Bool bare_layer (Expr-F.Text t)

pub bare-Call : (f : Rt) (es : List Expr) → is_bare (expr.Call f es) ≡ false
bare-Call f es =
    ap is_bare (sym (expr.rolls-Call f es)) ∙ fold-roll-Expr Bool bare_layer (Expr-F.Call f es)

pub bare-Array : (es : List Expr) → is_bare (expr.Array es) ≡ bare_layer (Expr-F.Array (map is_bare es))
bare-Array es = ap is_bare (sym (expr.rolls-Array es)) ∙ fold-roll-Expr Bool bare_layer (Expr-F.Array es)
