-- The text of a tree by its parts, as code puts it. No public clause rests on this.
use Rattle.std.specs.Prelude.{ℕ, List, [], ◌∷◌, ◌++◌, codes, map, Bool, true, false}
use Rattle.std.specs.Fmt.{signed_decimal}
use Rattle.qc_rt.specs.declared.function.Rt.{Rt}
use Rattle.qc_js.specs.declared.tree.Expr.{Expr}
use Rattle.qc_js.specs.declared.tree.Expr.TheOpen.{Expr-F}
use Rattle.qc_js.specs.declared.tree.Expr.TheFolds.{fold-Expr}
use Rattle.qc_js.specs.declared.tree.Stmt.{Stmt}
use Rattle.qc_js.specs.declared.tree.Stmt.TheOpen.{Stmt-F}
use Rattle.qc_js.specs.declared.tree.Stmt.TheFolds.{fold-Stmt}
use Rattle.qc_js.specs.declared.tree.Program.{Program}
use Rattle.qc_rt.specs.Table.{word_of}
use Rattle.qc_js.specs.Tokens.{variable}
use Rattle.qc_js.specs.Layout.{escaped, pieces}

abbrev pub behind_comma : List ℕ → List ℕ
behind_comma x = codes ", " ++ x

abbrev pub more_parts : List (List ℕ) → List ℕ
more_parts xs = pieces behind_comma xs

abbrev pub parts : List (List ℕ) → List ℕ
parts [] = []
parts (x ∷ xs) = x ++ more_parts xs

-- what stands before an item
abbrev pub comma_unless : Bool → List ℕ
comma_unless true = []
comma_unless false = codes ", "

abbrev pub array_text : List (List ℕ) → List ℕ
array_text xs = codes "[" ++ (parts xs ++ codes "]")

abbrev pub call_text : Rt → List (List ℕ) → List ℕ
call_text f xs = codes "rt." ++ (word_of f ++ (codes "(" ++ (parts xs ++ codes ")")))

abbrev pub expr_step : Expr-F (List ℕ) → List ℕ
expr_step (Expr-F.Var n) = variable n
expr_step Expr-F.World = codes "w"
expr_step Expr-F.True = codes "true"
expr_step Expr-F.False = codes "false"
expr_step Expr-F.Null = codes "null"
expr_step (Expr-F.Int n) = signed_decimal n ++ codes "n"
expr_step (Expr-F.Text t) = codes "\"" ++ (escaped t ++ codes "\"")
expr_step (Expr-F.Array xs) = array_text xs
expr_step (Expr-F.Call f xs) = call_text f xs

abbrev pub expr_text : Expr → List ℕ
expr_text = fold-Expr (List ℕ) expr_step

-- statements one after the other, each after a space
abbrev pub behind_space : List ℕ → List ℕ
behind_space x = codes " " ++ x

abbrev pub lines : List (List ℕ) → List ℕ
lines xs = pieces behind_space xs

abbrev pub block_text : List (List ℕ) → List ℕ
block_text ss = codes "{" ++ (lines ss ++ codes " }")

abbrev pub let_text : ℕ → List ℕ
let_text n = codes "let " ++ (variable n ++ codes ";")

abbrev pub set_text : ℕ → List ℕ → List ℕ
set_text n e = variable n ++ (codes " = " ++ (e ++ codes ";"))

abbrev pub const_text : ℕ → List ℕ → List ℕ
const_text n e = codes "const " ++ set_text n e

abbrev pub collect_text : ℕ → List ℕ → List ℕ
collect_text n block = codes "const " ++ (variable n ++ (codes " = []; " ++ block))

abbrev pub push_text : ℕ → List ℕ → List ℕ
push_text n e = variable n ++ (codes ".push(" ++ (e ++ codes ");"))

abbrev pub for_text : ℕ → List ℕ → List ℕ → List ℕ
for_text n e block = codes "for (const " ++ (variable n ++ (codes " of " ++ (e ++ (codes ") " ++ block))))

abbrev pub if_head : List ℕ → List ℕ
if_head e = codes "if (" ++ (e ++ codes ") ")

abbrev pub if_text : List ℕ → List ℕ → List ℕ → List ℕ
if_text e block other = if_head e ++ (block ++ (codes " else " ++ other))

abbrev pub stmt_step : Stmt-F (List ℕ) → List ℕ
stmt_step (Stmt-F.Let n) = let_text n
stmt_step (Stmt-F.Set n e) = set_text n (expr_text e)
stmt_step (Stmt-F.Const n e) = const_text n (expr_text e)
stmt_step (Stmt-F.Collect n ss) = collect_text n (block_text ss)
stmt_step (Stmt-F.Push n e) = push_text n (expr_text e)
stmt_step (Stmt-F.For n e ss) = for_text n (expr_text e) (block_text ss)
stmt_step (Stmt-F.If e ss us) = if_text (expr_text e) (block_text ss) (block_text us)
stmt_step (Stmt-F.Block ss) = block_text ss

abbrev pub stmt_text : Stmt → List ℕ
stmt_text = fold-Stmt (List ℕ) stmt_step

abbrev pub program_text : Program → List ℕ
program_text p =
    codes "function query(w, rt) {" ++ (lines (map stmt_text p.body)
    ++ (codes " return " ++ (expr_text p.result ++ codes "; }\n")))
