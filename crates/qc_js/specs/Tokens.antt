-- The tokens of a tree.
use Rattle.std.specs.Prelude.{ℕ, List, [], ◌∷◌, ◌++◌, codes, decimal}
use Rattle.qc_rt.specs.Table.{word_of}
use Rattle.qc_js.specs.declared.token.Token.{Token}
use Rattle.qc_js.specs.declared.token.Token.TheVariants.{Word, Int, Text, Mark}
use Rattle.qc_js.specs.declared.tree.Expr.{Expr}
use Rattle.qc_js.specs.declared.tree.Expr.TheOpen.{Expr-F}
use Rattle.qc_js.specs.declared.tree.Expr.TheFolds.{fold-Expr}
use Rattle.qc_js.specs.declared.tree.Stmt.{Stmt}
use Rattle.qc_js.specs.declared.tree.Stmt.TheOpen.{Stmt-F}
use Rattle.qc_js.specs.declared.tree.Stmt.TheFolds.{fold-Stmt}
use Rattle.qc_js.specs.declared.tree.Program.{Program}

-- the marks ( ) { } [ ] , ; . =
abbrev pub open_paren : Token
open_paren = Mark 40

abbrev pub close_paren : Token
close_paren = Mark 41

abbrev pub open_brace : Token
open_brace = Mark 123

abbrev pub close_brace : Token
close_brace = Mark 125

abbrev pub open_square : Token
open_square = Mark 91

abbrev pub close_square : Token
close_square = Mark 93

abbrev pub comma : Token
comma = Mark 44

abbrev pub semicolon : Token
semicolon = Mark 59

abbrev pub dot : Token
dot = Mark 46

abbrev pub equals : Token
equals = Mark 61

-- the word of a variable
abbrev pub variable : ℕ → List ℕ
variable x = 118 ∷ decimal x

-- each list behind a comma
abbrev pub after_commas : List (List Token) → List Token
after_commas [] = []
after_commas (x ∷ xs) = comma ∷ (x ++ after_commas xs)

-- the lists with commas between
abbrev pub separated : List (List Token) → List Token
separated [] = []
separated (x ∷ xs) = x ++ after_commas xs

-- the lists one after the other
abbrev pub joined : List (List Token) → List Token
joined [] = []
joined (x ∷ xs) = x ++ joined xs

-- an expression, by the tokens of its parts
abbrev pub expr_layer : Expr-F (List Token) → List Token
expr_layer (Expr-F.Var x) = Word (variable x) ∷ []
expr_layer Expr-F.World = Word (codes "w") ∷ []
expr_layer Expr-F.True = Word (codes "true") ∷ []
expr_layer Expr-F.False = Word (codes "false") ∷ []
expr_layer Expr-F.Null = Word (codes "null") ∷ []
expr_layer (Expr-F.Int n) = Int n ∷ []
expr_layer (Expr-F.Text t) = Text t ∷ []
expr_layer (Expr-F.Array xs) = open_square ∷ (separated xs ++ close_square ∷ [])
expr_layer (Expr-F.Call f xs) =
    Word (codes "rt") ∷ dot ∷ Word (word_of f) ∷ open_paren ∷ (separated xs ++ close_paren ∷ [])

abbrev pub expr_tokens : Expr → List Token
expr_tokens = fold-Expr (List Token) expr_layer

-- a block, by the tokens of its statements
abbrev pub block_tokens : List (List Token) → List Token
block_tokens ss = open_brace ∷ (joined ss ++ close_brace ∷ [])

-- a statement, by the tokens of its parts
abbrev pub stmt_layer : Stmt-F (List Token) → List Token
stmt_layer (Stmt-F.Let x) = Word (codes "let") ∷ Word (variable x) ∷ semicolon ∷ []
stmt_layer (Stmt-F.Set x e) = Word (variable x) ∷ equals ∷ (expr_tokens e ++ semicolon ∷ [])
stmt_layer (Stmt-F.Const x e) =
    Word (codes "const") ∷ Word (variable x) ∷ equals ∷ (expr_tokens e ++ semicolon ∷ [])
stmt_layer (Stmt-F.Collect x ss) =
    Word (codes "const") ∷ Word (variable x) ∷ equals ∷ open_square ∷ close_square ∷ semicolon ∷ block_tokens ss
stmt_layer (Stmt-F.Push x e) =
    Word (variable x) ∷ dot ∷ Word (codes "push") ∷ open_paren ∷ (expr_tokens e ++ close_paren ∷ semicolon ∷ [])
stmt_layer (Stmt-F.For x e ss) =
    Word (codes "for") ∷ open_paren ∷ Word (codes "const") ∷ Word (variable x) ∷ Word (codes "of")
    ∷ (expr_tokens e ++ close_paren ∷ block_tokens ss)
stmt_layer (Stmt-F.If e ss us) =
    Word (codes "if") ∷ open_paren
    ∷ (expr_tokens e ++ close_paren ∷ (block_tokens ss ++ Word (codes "else") ∷ block_tokens us))
stmt_layer (Stmt-F.Block ss) = block_tokens ss

abbrev pub stmt_tokens : Stmt → List Token
stmt_tokens = fold-Stmt (List Token) stmt_layer

-- statements one after the other
abbrev pub all_tokens : List Stmt → List Token
all_tokens [] = []
all_tokens (s ∷ ss) = stmt_tokens s ++ all_tokens ss

-- a program: function query(w, rt) { and the statements and return and the expression and ; }
abbrev pub program_tokens : Program → List Token
program_tokens p =
    Word (codes "function") ∷ Word (codes "query") ∷ open_paren ∷ Word (codes "w") ∷ comma ∷ Word (codes "rt")
    ∷ close_paren ∷ open_brace
    ∷ (all_tokens p.body
    ++ Word (codes "return") ∷ (expr_tokens p.result ++ semicolon ∷ close_brace ∷ []))
