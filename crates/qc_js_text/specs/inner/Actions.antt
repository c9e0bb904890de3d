-- What the actions of the grammar do with a stack of values, behind so many lexemes.
use Rattle.std.specs.Prelude.{ℕ, ℤ, pos, pred, if◌then◌else◌, eqb, List, [], ◌∷◌, ◌++◌}
use Rattle.std.specs.Prelude.{Option, Some, slice_get, Result, Ok, Err}
use Rattle.qc_grammar.specs.declared.fault.SyntaxFault.{SyntaxFault}
use Rattle.qc_grammar.specs.declared.symbol.Event.{Event}
use Rattle.qc_rt.specs.declared.function.Rt.{Rt}
use Rattle.qc_rt.specs.declared.function.Rt.TheVariants as rt
use Rattle.qc_js.specs.declared.tree.Expr.TheVariants as tree
use Rattle.qc_js.specs.declared.tree.Program.{Program}
use Rattle.qc_js.specs.declared.tree.Stmt.TheVariants as stmt
use Rattle.qc_js_lex.specs.declared.lexeme.Lexeme.{Lexeme}
use Rattle.qc_js_lex.specs.declared.lexeme.Lexeme.TheVariants as lexeme
use Rattle.qc_js_text.specs.declared.value.Value.TheVariants.{Name, Function, Tree, Members, Statement, Statements}
use Rattle.qc_js_text.specs.Table.{DO_NO_STATEMENTS, DO_STATEMENT, DO_NAME, DO_LET, DO_FOR, DO_IF, DO_SET}
use Rattle.qc_js_text.specs.Table.{DO_PUSH, DO_CONST, DO_COLLECT, DO_NONE, DO_ITEM, DO_ARRAY, DO_VARIABLE, DO_WORLD}
use Rattle.qc_js_text.specs.Table.{DO_TRUE, DO_FALSE, DO_NULL, DO_INT, DO_TEXT, DO_CALLED, DO_CALL}
use Rattle.qc_js_text.specs.inner.Values.{Values, rest, the_name, the_function, the_tree, the_members, the_statement}
use Rattle.qc_js_text.specs.inner.Values.{the_statements}

-- ---- the lexeme before

-- the last of the first n lexemes
abbrev pub before : List Lexeme → ℕ → Option Lexeme
before ls n = slice_get ls (pred n)

abbrev pub var_of : Option Lexeme → ℕ
var_of (Some (lexeme.Var x)) = x
var_of _ = 0

abbrev pub called_of : Option Lexeme → Rt
called_of (Some (lexeme.Function f)) = f
called_of _ = rt.Nothing

abbrev pub int_of : Option Lexeme → ℤ
int_of (Some (lexeme.Int n)) = n
int_of _ = pos 0

abbrev pub text_of : Option Lexeme → List ℕ
text_of (Some (lexeme.Text t)) = t
text_of _ = []

-- ---- actions that put the lexeme before on the stack

abbrev pub name : List Lexeme → ℕ → Values → Values
name ls n s = Name (var_of (before ls n)) ∷ s

abbrev pub called : List Lexeme → ℕ → Values → Values
called ls n s = Function (called_of (before ls n)) ∷ s

abbrev pub variable : List Lexeme → ℕ → Values → Values
variable ls n s = Tree (tree.Var (var_of (before ls n))) ∷ s

abbrev pub int : List Lexeme → ℕ → Values → Values
int ls n s = Tree (tree.Int (int_of (before ls n))) ∷ s

abbrev pub text : List Lexeme → ℕ → Values → Values
text ls n s = Tree (tree.Text (text_of (before ls n))) ∷ s

-- ---- actions that grow lists

-- one more member
abbrev pub item : Values → Values
item s = Members (the_members (rest s) ++ the_tree s ∷ []) ∷ rest (rest s)

-- one more statement
abbrev pub statement : Values → Values
statement s = Statements (the_statements (rest s) ++ the_statement s ∷ []) ∷ rest (rest s)

-- ---- actions that make a tree of its parts

abbrev pub array : Values → Values
array s = Tree (tree.Array (the_members s)) ∷ rest s

abbrev pub call : Values → Values
call s = Tree (tree.Call (the_function (rest s)) (the_members s)) ∷ rest (rest s)

abbrev pub let_one : Values → Values
let_one s = Statement (stmt.Let (the_name s)) ∷ rest s

abbrev pub set_one : Values → Values
set_one s = Statement (stmt.Set (the_name (rest s)) (the_tree s)) ∷ rest (rest s)

abbrev pub const_one : Values → Values
const_one s = Statement (stmt.Const (the_name (rest s)) (the_tree s)) ∷ rest (rest s)

abbrev pub collect_one : Values → Values
collect_one s = Statement (stmt.Collect (the_name (rest s)) (the_statements s)) ∷ rest (rest s)

abbrev pub push_one : Values → Values
push_one s = Statement (stmt.Push (the_name (rest s)) (the_tree s)) ∷ rest (rest s)

abbrev pub for_one : Values → Values
for_one s =
    Statement (stmt.For (the_name (rest (rest s))) (the_tree (rest s)) (the_statements s)) ∷ rest (rest (rest s))

abbrev pub if_one : Values → Values
if_one s =
    Statement (stmt.If (the_tree (rest (rest s))) (the_statements (rest s)) (the_statements s)) ∷ rest (rest (rest s))

abbrev pub block_one : Values → Values
block_one s = Statement (stmt.Block (the_statements s)) ∷ rest s

-- ---- all actions, by their numbers

-- those that make a statement of its parts
unfoldable pub act_stmt : ℕ → Values → Values
act_stmt a s =
    if eqb a DO_LET then let_one s
    else if eqb a DO_SET then set_one s
    else if eqb a DO_CONST then const_one s
    else if eqb a DO_COLLECT then collect_one s
    else if eqb a DO_PUSH then push_one s
    else if eqb a DO_FOR then for_one s
    else if eqb a DO_IF then if_one s
    else block_one s

-- those that begin or grow a list, make an expression of its parts, or a statement
unfoldable pub act_list : ℕ → Values → Values
act_list a s =
    if eqb a DO_NONE then Members [] ∷ s
    else if eqb a DO_ITEM then item s
    else if eqb a DO_ARRAY then array s
    else if eqb a DO_CALL then call s
    else if eqb a DO_NO_STATEMENTS then Statements [] ∷ s
    else if eqb a DO_STATEMENT then statement s
    else act_stmt a s

-- an action behind n lexemes
unfoldable pub act : List Lexeme → ℕ → ℕ → Values → Values
act ls a n s =
    if eqb a DO_NAME then name ls n s
    else if eqb a DO_CALLED then called ls n s
    else if eqb a DO_VARIABLE then variable ls n s
    else if eqb a DO_INT then int ls n s
    else if eqb a DO_TEXT then text ls n s
    else if eqb a DO_WORLD then Tree tree.World ∷ s
    else if eqb a DO_TRUE then Tree tree.True ∷ s
    else if eqb a DO_FALSE then Tree tree.False ∷ s
    else if eqb a DO_NULL then Tree tree.Null ∷ s
    else act_list a s

-- the actions of a derivation, one after the other
abbrev pub run : List Lexeme → List Event → Values → Values
run ls [] s = s
run ls (e ∷ es) s = run ls es (act ls e.action e.at s)

-- the program that they leave: its statements, and its expression on top
abbrev pub program : Values → Program
program s = record { body = the_statements (rest s); result = the_tree s }

-- the program of a derivation
abbrev pub program_of : List Lexeme → List Event → Program
program_of ls es = program (run ls es [])

-- what is made of a derivation, or the fault where there is none
abbrev pub made : List Lexeme → Result (List Event) SyntaxFault → Result Program SyntaxFault
made ls (Ok es) = Ok (program_of ls es)
made ls (Err fault) = Err fault
