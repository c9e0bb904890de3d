-- The lexemes of a tree, and the trees that have no bare constant.
use Rattle.std.specs.Prelude.{◌≡◌, Bool, true, ◌&&◌, not, IsTrue, List, [], ◌∷◌, ◌++◌, map}
use Rattle.qc_js.specs.declared.tree.Expr.{Expr}
use Rattle.qc_js.specs.declared.tree.Expr.TheOpen.{Expr-F}
use Rattle.qc_js.specs.declared.tree.Expr.TheFolds.{fold-Expr}
use Rattle.qc_js.specs.declared.tree.Stmt.{Stmt}
use Rattle.qc_js.specs.declared.tree.Stmt.TheOpen.{Stmt-F}
use Rattle.qc_js.specs.declared.tree.Stmt.TheFolds.{fold-Stmt}
use Rattle.qc_js.specs.declared.tree.Program.{Program}
use Rattle.qc_js.specs.Held.{all_true}
use Rattle.qc_js.specs.WellFormed.{is_bare}
use Rattle.qc_js_lex.specs.declared.lexeme.Lexeme.{Lexeme}
use Rattle.qc_js_lex.specs.declared.lexeme.Lexeme.TheVariants.{Var, Function, Int, Text, Fixed}

-- the words and the marks of the grammar in order
abbrev pub function_word : Lexeme
function_word = Fixed 0

abbrev pub query_word : Lexeme
query_word = Fixed 1

abbrev pub world_word : Lexeme
world_word = Fixed 2

abbrev pub rt_word : Lexeme
rt_word = Fixed 3

abbrev pub return_word : Lexeme
return_word = Fixed 4

abbrev pub let_word : Lexeme
let_word = Fixed 5

abbrev pub const_word : Lexeme
const_word = Fixed 6

abbrev pub push_word : Lexeme
push_word = Fixed 7

abbrev pub for_word : Lexeme
for_word = Fixed 8

abbrev pub of_word : Lexeme
of_word = Fixed 9

abbrev pub if_word : Lexeme
if_word = Fixed 10

abbrev pub else_word : Lexeme
else_word = Fixed 11

abbrev pub true_word : Lexeme
true_word = Fixed 12

abbrev pub false_word : Lexeme
false_word = Fixed 13

abbrev pub null_word : Lexeme
null_word = Fixed 14

abbrev pub open_paren : Lexeme
open_paren = Fixed 15

abbrev pub close_paren : Lexeme
close_paren = Fixed 16

abbrev pub open_brace : Lexeme
open_brace = Fixed 17

abbrev pub close_brace : Lexeme
close_brace = Fixed 18

abbrev pub open_square : Lexeme
open_square = Fixed 19

abbrev pub close_square : Lexeme
close_square = Fixed 20

abbrev pub comma : Lexeme
comma = Fixed 21

abbrev pub semicolon : Lexeme
semicolon = Fixed 22

abbrev pub dot : Lexeme
dot = Fixed 23

abbrev pub equals : Lexeme
equals = Fixed 24

-- each list behind a comma
abbrev pub after_commas : List (List Lexeme) → List Lexeme
after_commas [] = []
after_commas (x ∷ xs) = comma ∷ (x ++ after_commas xs)

-- the lists with commas between
abbrev pub separated : List (List Lexeme) → List Lexeme
separated [] = []
separated (x ∷ xs) = x ++ after_commas xs

-- the lists one after the other
abbrev pub joined : List (List Lexeme) → List Lexeme
joined [] = []
joined (x ∷ xs) = x ++ joined xs

-- an expression, by the lexemes of its parts
abbrev pub expr_layer : Expr-F (List Lexeme) → List Lexeme
expr_layer (Expr-F.Var x) = Var x ∷ []
expr_layer Expr-F.World = world_word ∷ []
expr_layer Expr-F.True = true_word ∷ []
expr_layer Expr-F.False = false_word ∷ []
expr_layer Expr-F.Null = null_word ∷ []
expr_layer (Expr-F.Int n) = Int n ∷ []
expr_layer (Expr-F.Text t) = Text t ∷ []
expr_layer (Expr-F.Array xs) = open_square ∷ (separated xs ++ close_square ∷ [])
expr_layer (Expr-F.Call f xs) = rt_word ∷ dot ∷ Function f ∷ open_paren ∷ (separated xs ++ close_paren ∷ [])

abbrev pub expr_lexemes : Expr → List Lexeme
expr_lexemes = fold-Expr (List Lexeme) expr_layer

-- a block, by the lexemes of its statements
abbrev pub block_lexemes : List (List Lexeme) → List Lexeme
block_lexemes ss = open_brace ∷ (joined ss ++ close_brace ∷ [])

-- a statement, by the lexemes of its parts
abbrev pub stmt_layer : Stmt-F (List Lexeme) → List Lexeme
stmt_layer (Stmt-F.Let x) = let_word ∷ Var x ∷ semicolon ∷ []
stmt_layer (Stmt-F.Set x e) = Var x ∷ equals ∷ (expr_lexemes e ++ semicolon ∷ [])
stmt_layer (Stmt-F.Const x e) = const_word ∷ Var x ∷ equals ∷ (expr_lexemes e ++ semicolon ∷ [])
stmt_layer (Stmt-F.Collect x ss) =
    const_word ∷ Var x ∷ equals ∷ open_square ∷ close_square ∷ semicolon ∷ block_lexemes ss
stmt_layer (Stmt-F.Push x e) =
    Var x ∷ dot ∷ push_word ∷ open_paren ∷ (expr_lexemes e ++ close_paren ∷ semicolon ∷ [])
stmt_layer (Stmt-F.For x e ss) =
    for_word ∷ open_paren ∷ const_word ∷ Var x ∷ of_word ∷ (expr_lexemes e ++ close_paren ∷ block_lexemes ss)
stmt_layer (Stmt-F.If e ss us) =
    if_word ∷ open_paren ∷ (expr_lexemes e ++ close_paren ∷ (block_lexemes ss ++ else_word ∷ block_lexemes us))
stmt_layer (Stmt-F.Block ss) = block_lexemes ss

abbrev pub stmt_lexemes : Stmt → List Lexeme
stmt_lexemes = fold-Stmt (List Lexeme) stmt_layer

-- a program
abbrev pub program_lexemes : Program → List Lexeme
program_lexemes p =
    function_word ∷ query_word ∷ open_paren ∷ world_word ∷ comma ∷ rt_word ∷ close_paren ∷ open_brace
    ∷ (joined (map stmt_lexemes p.body)
    ++ return_word ∷ (expr_lexemes p.result ++ semicolon ∷ close_brace ∷ []))

-- no constant in the statement is written as []
abbrev pub told_layer : Stmt-F Bool → Bool
told_layer (Stmt-F.Const x e) = not (is_bare e)
told_layer (Stmt-F.Collect x ss) = all_true ss
told_layer (Stmt-F.For x e ss) = all_true ss
told_layer (Stmt-F.If e ss us) = all_true ss && all_true us
told_layer (Stmt-F.Block ss) = all_true ss
told_layer _ = true

abbrev pub is_told : Stmt → Bool
is_told = fold-Stmt Bool told_layer

-- the lexemes are those of the program, which has no such constant
pub record Reads (ls : List Lexeme) (p : Program) : Type 0 where
  pub told : IsTrue (all_true (map is_told p.body))
  pub lexemes : ls ≡ program_lexemes p
