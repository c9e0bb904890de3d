-- The trees that code can hold: the numbers of variables have 128 bits, integers 64, and texts are in UTF-8.
use Rattle.std.specs.Prelude.{ℕ, ◌^◌, ◌-◌, ℤ, pos, negsuc, int_le, nat_lt, Bool, true, ◌&&◌, List, [], ◌∷◌, map}
use Rattle.std.specs.Str.{is_utf8}
use Rattle.qc_js.specs.declared.tree.Expr.{Expr}
use Rattle.qc_js.specs.declared.tree.Expr.TheOpen.{Expr-F}
use Rattle.qc_js.specs.declared.tree.Expr.TheFolds.{fold-Expr}
use Rattle.qc_js.specs.declared.tree.Stmt.{Stmt}
use Rattle.qc_js.specs.declared.tree.Stmt.TheOpen.{Stmt-F}
use Rattle.qc_js.specs.declared.tree.Stmt.TheFolds.{fold-Stmt}
use Rattle.qc_js.specs.declared.tree.Program.{Program}

-- the integers of 64 bits, which are all that a text may have
abbrev pub is_bits64 : ℤ → Bool
is_bits64 n = int_le (negsuc (2 ^ 63 - 1)) n && int_le n (pos (2 ^ 63 - 1))

-- each is true
abbrev pub all_true : List Bool → Bool
all_true [] = true
all_true (b ∷ bs) = b && all_true bs

abbrev pub is_number : ℕ → Bool
is_number x = nat_lt x (2 ^ 128)

abbrev pub expr_held : Expr-F Bool → Bool
expr_held (Expr-F.Var x) = is_number x
expr_held (Expr-F.Int n) = is_bits64 n
expr_held (Expr-F.Text t) = is_utf8 t
expr_held (Expr-F.Array xs) = all_true xs
expr_held (Expr-F.Call f xs) = all_true xs
expr_held _ = true

abbrev pub holds_expr : Expr → Bool
holds_expr = fold-Expr Bool expr_held

abbrev pub stmt_held : Stmt-F Bool → Bool
stmt_held (Stmt-F.Let x) = is_number x
stmt_held (Stmt-F.Set x e) = is_number x && holds_expr e
stmt_held (Stmt-F.Const x e) = is_number x && holds_expr e
stmt_held (Stmt-F.Collect x ss) = is_number x && all_true ss
stmt_held (Stmt-F.Push x e) = is_number x && holds_expr e
stmt_held (Stmt-F.For x e ss) = is_number x && (holds_expr e && all_true ss)
stmt_held (Stmt-F.If e ss us) = holds_expr e && (all_true ss && all_true us)
stmt_held (Stmt-F.Block ss) = all_true ss

abbrev pub holds_stmt : Stmt → Bool
holds_stmt = fold-Stmt Bool stmt_held

abbrev pub holds_program : Program → Bool
holds_program p = all_true (map holds_stmt p.body) && holds_expr p.result
