-- What the actions of the grammar do with a stack of values, behind so many tokens.
use Rattle.std.specs.Prelude.{ℕ, neg_ℤ, Bool, true, false, pred, if◌then◌else◌, eqb, List, [], ◌∷◌, ◌++◌}
use Rattle.std.specs.Prelude.{Some, None, Result, Ok, Err}
use Rattle.qc_grammar.specs.declared.fault.SyntaxFault.{SyntaxFault}
use Rattle.qc_grammar.specs.declared.symbol.Event.{Event}
use Rattle.qc_lex.specs.declared.token.Lexeme.{Lexeme}
use Rattle.qc_oql_tree.specs.declared.tree.Direction.{Direction}
use Rattle.qc_oql_tree.specs.declared.tree.Direction.TheVariants as direction
use Rattle.qc_oql_tree.specs.declared.tree.Oql.TheVariants as tree
use Rattle.qc_oql_tree.specs.declared.tree.Quantifier.{Quantifier}
use Rattle.qc_oql_tree.specs.declared.tree.Quantifier.TheVariants as quantifier
use Rattle.qc_oql_tree.specs.declared.tree.Query.{Query}
use Rattle.qc_oql_tree.specs.Lexemes as lexemes
use Rattle.qc_oql_tree.specs.OperatorTokens.{constant_of, unary_of, binary_of, division_of, branding_of}
use Rattle.qc_oql_tree.specs.Trees as trees
use Rattle.qc_oql_table.specs.declared.value.Value.TheVariants.{Mark, Name, Divisor, Tree, Members, Entries, Keys}
use Rattle.qc_oql_table.specs.declared.value.Value.TheVariants.{Filtered, Ordered}
use Rattle.qc_oql_table.specs.Table.{DO_NONE, DO_NAME, DO_ENTRY, DO_MARK, DO_SELECT_DISTINCT, DO_SELECT, DO_FILTER}
use Rattle.qc_oql_table.specs.Table.{DO_NO_FILTER, DO_NO_KEYS, DO_ORDER, DO_NO_ORDER, DO_ASC, DO_DESC, DO_IF_ELSE}
use Rattle.qc_oql_table.specs.Table.{DO_FOR_ALL, DO_EXISTS, DO_UNARY, DO_BINARY, DO_LIKE, DO_DIVIDE, DO_NEGATIVE}
use Rattle.qc_oql_table.specs.Table.{DO_POSITIVE, DO_DOT, DO_WHOLE, DO_TEXT, DO_CONSTANT, DO_VARIABLE, DO_STRUCT}
use Rattle.qc_oql_table.specs.Table.{DO_NO_MEMBERS, DO_BAG, DO_CALL, DO_BRAND, DO_MEMBER}
use Rattle.qc_oql_table.specs.Values.{Values, rest, the_mark, the_word, the_divisor, the_tree, the_members}
use Rattle.qc_oql_table.specs.Values.{the_entries, the_keys, the_filter, the_order, the_entry}

-- ---- the token before

-- the last of the first n tokens
abbrev pub token : List Lexeme → ℕ → Lexeme
token ts n = lexemes.lexeme_at ts (pred n)

-- ---- actions that put the token before on the stack

abbrev pub mark : List Lexeme → ℕ → Values → Values
mark ts n s = Mark (record { at = pred n; kind = lexemes.kind (token ts n) }) ∷ s

abbrev pub name : List Lexeme → ℕ → Values → Values
name ts n s = Name (record { at = pred n; text = (token ts n).piece }) ∷ s

abbrev pub positive : List Lexeme → ℕ → Values → Values
positive ts n s = Divisor (lexemes.whole (token ts n)) ∷ s

abbrev pub negative : List Lexeme → ℕ → Values → Values
negative ts n s = Divisor (neg_ℤ (lexemes.whole (token ts n))) ∷ s

abbrev pub whole : List Lexeme → ℕ → Values → Values
whole ts n s = Tree (tree.Whole (pred n) (lexemes.whole (token ts n))) ∷ s

abbrev pub text : List Lexeme → ℕ → Values → Values
text ts n s = Tree (tree.Text (pred n) (lexemes.content (token ts n))) ∷ s

abbrev pub constant : List Lexeme → ℕ → Values → Values
constant ts n s = Tree (tree.Constant (pred n) (constant_of (lexemes.kind (token ts n)))) ∷ s

abbrev pub variable : List Lexeme → ℕ → Values → Values
variable ts n s = Tree (tree.Name (pred n) (token ts n).piece) ∷ s

-- value.label
abbrev pub dot : List Lexeme → ℕ → Values → Values
dot ts n s = Tree (tree.Dot (pred n) (the_tree s) (token ts n).piece) ∷ rest s

-- value like text
abbrev pub like : List Lexeme → ℕ → Values → Values
like ts n s =
    Tree (tree.Like (the_mark s).at (the_tree (rest s)) (lexemes.content (token ts n))) ∷ rest (rest s)

-- ---- actions that grow lists

-- one more name with its expression
abbrev pub entry : Values → Values
entry s = Entries (the_entries (rest (rest s)) ++ the_entry s ∷ []) ∷ rest (rest (rest s))

-- one more member of a bag
abbrev pub member : Values → Values
member s = Members (the_members (rest s) ++ the_tree s ∷ []) ∷ rest (rest s)

-- one more key
abbrev pub key : Direction → Values → Values
key d s = Keys (the_keys (rest s) ++ trees.key (the_tree s) d ∷ []) ∷ rest (rest s)

-- ---- actions that make a tree of its parts

-- value, sources, filter, order, and whether distinct
abbrev pub select : Bool → Values → Values
select distinct s =
    let order = s in
    let filter = rest s in
    let sources = rest (rest s) in
    let value = rest (rest (rest s)) in
    let mark = rest (rest (rest (rest s))) in
    Tree
    (tree.Select (the_mark mark).at
    (trees.select distinct (the_tree value) (the_entries sources) (the_filter filter) (the_order order))) ∷
    rest mark

abbrev pub filter : Values → Values
filter s = Filtered (Some (trees.filter (the_mark (rest s)).at (the_tree s))) ∷ rest (rest s)

abbrev pub order : Values → Values
order s = Ordered (Some (trees.order (the_mark (rest s)).at (the_keys s))) ∷ rest (rest s)

abbrev pub if_else : Values → Values
if_else s =
    let mark = rest (rest (rest s)) in
    Tree (tree.If (the_mark mark).at (the_tree (rest (rest s))) (the_tree (rest s)) (the_tree s)) ∷ rest mark

-- a quantifier over a name with its source, and the condition
abbrev pub quantified : Quantifier → Values → Values
quantified q s =
    let mark = rest (rest (rest s)) in
    Tree (tree.Quantified (the_mark mark).at q (the_entry (rest s)) (the_tree s)) ∷ rest mark

abbrev pub unary : Values → Values
unary s = let m = the_mark (rest s) in Tree (tree.Unary m.at (unary_of m.kind) (the_tree s)) ∷ rest (rest s)

-- an operator between its operands
abbrev pub binary : Values → Values
binary s =
    let m = the_mark (rest s) in
    Tree (tree.Binary m.at (binary_of m.kind) (the_tree (rest (rest s))) (the_tree s)) ∷ rest (rest (rest s))

-- a function of two operands
abbrev pub call : Values → Values
call s =
    let m = the_mark (rest (rest s)) in
    Tree (tree.Binary m.at (binary_of m.kind) (the_tree (rest s)) (the_tree s)) ∷ rest (rest (rest s))

abbrev pub divide : Values → Values
divide s =
    let m = the_mark (rest s) in
    Tree (tree.Divide m.at (division_of m.kind) (the_tree (rest (rest s))) (the_divisor s)) ∷ rest (rest (rest s))

abbrev pub struct : Values → Values
struct s = Tree (tree.Struct (the_mark (rest s)).at (the_entries s)) ∷ rest (rest s)

abbrev pub bag : Values → Values
bag s = Tree (tree.Bag (the_mark (rest s)).at (the_members s)) ∷ rest (rest s)

-- a function of a class and an operand
abbrev pub brand : Values → Values
brand s =
    let m = the_mark (rest (rest s)) in
    Tree (tree.Brand m.at (branding_of m.kind) (the_word (rest s)).text (the_tree s)) ∷ rest (rest (rest s))

-- a value with the cases for its left and its right content
abbrev pub matched : Values → Values
matched s =
    let right = s in
    let left = rest (rest s) in
    let value = rest (rest left) in
    let mark = rest value in
    Tree (tree.Match (the_mark mark).at (the_tree value) (the_entry left) (the_entry right)) ∷ rest mark

-- ---- all actions, by their numbers

-- those that make a tree of its parts
unfoldable pub act_tree : ℕ → Values → Values
act_tree a s =
    if eqb a DO_SELECT_DISTINCT then select true s
    else if eqb a DO_SELECT then select false s
    else if eqb a DO_FILTER then filter s
    else if eqb a DO_ORDER then order s
    else if eqb a DO_IF_ELSE then if_else s
    else if eqb a DO_FOR_ALL then quantified quantifier.ForAll s
    else if eqb a DO_EXISTS then quantified quantifier.Exists s
    else if eqb a DO_UNARY then unary s
    else if eqb a DO_BINARY then binary s
    else if eqb a DO_CALL then call s
    else if eqb a DO_DIVIDE then divide s
    else if eqb a DO_STRUCT then struct s
    else if eqb a DO_BAG then bag s
    else if eqb a DO_BRAND then brand s
    else matched s

-- those that begin or grow a list, and those that make a tree
unfoldable pub act_list : ℕ → Values → Values
act_list a s =
    if eqb a DO_NONE then Entries [] ∷ s
    else if eqb a DO_ENTRY then entry s
    else if eqb a DO_NO_MEMBERS then Members [] ∷ s
    else if eqb a DO_MEMBER then member s
    else if eqb a DO_NO_KEYS then Keys [] ∷ s
    else if eqb a DO_ASC then key direction.Asc s
    else if eqb a DO_DESC then key direction.Desc s
    else if eqb a DO_NO_FILTER then Filtered None ∷ s
    else if eqb a DO_NO_ORDER then Ordered None ∷ s
    else act_tree a s

-- an action behind n tokens
unfoldable pub act : List Lexeme → ℕ → ℕ → Values → Values
act ts a n s =
    if eqb a DO_MARK then mark ts n s
    else if eqb a DO_NAME then name ts n s
    else if eqb a DO_VARIABLE then variable ts n s
    else if eqb a DO_WHOLE then whole ts n s
    else if eqb a DO_TEXT then text ts n s
    else if eqb a DO_CONSTANT then constant ts n s
    else if eqb a DO_POSITIVE then positive ts n s
    else if eqb a DO_NEGATIVE then negative ts n s
    else if eqb a DO_DOT then dot ts n s
    else if eqb a DO_LIKE then like ts n s
    else act_list a s

-- the actions of a derivation, one after the other
abbrev pub run : List Lexeme → List Event → Values → Values
run ts [] s = s
run ts (e ∷ es) s = run ts es (act ts e.action e.at s)

-- the query that they leave: its definitions, and its expression on top
abbrev pub query : Values → Query
query s = record { defines = the_entries (rest s); body = the_tree s }

-- the query of a derivation
abbrev pub query_of : List Lexeme → List Event → Query
query_of ts es = query (run ts es [])

-- what is made of a derivation, or the fault where there is none
abbrev pub made : List Lexeme → Result (List Event) SyntaxFault → Result Query SyntaxFault
made ts (Ok es) = Ok (query_of ts es)
made ts (Err fault) = Err fault
