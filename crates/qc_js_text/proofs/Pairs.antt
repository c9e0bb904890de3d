-- The tokens and the lexemes of a tree say the same.
use Rattle.std.proofs.Common.{◌≡◌, ℕ, List, [], ◌∷◌, ◌++◌, map, Bool, true, ◌&&◌, codes, refl, sym, ap, ◌∙◌}
use Rattle.std.proofs.Common.{subst}
use Rattle.qc_rt.specs.declared.function.Rt.{Rt}
use Rattle.qc_rt.specs.Table.{word_of}
use Rattle.qc_js.specs.declared.token.Token.{Token}
use Rattle.qc_js.specs.declared.token.Token.TheVariants as token
use Rattle.qc_js.specs.declared.tree.Expr.{Expr}
use Rattle.qc_js.specs.declared.tree.Expr.TheOpen.{Expr-F}
use Rattle.qc_js.specs.declared.tree.Expr.TheViews.{roll-Expr}
use Rattle.qc_js.specs.declared.tree.Expr.TheFolds.{map-Expr, ind-Expr, fold-roll-Expr}
use Rattle.qc_js.specs.declared.tree.Stmt.{Stmt}
use Rattle.qc_js.specs.declared.tree.Stmt.TheOpen.{Stmt-F}
use Rattle.qc_js.specs.declared.tree.Stmt.TheViews.{roll-Stmt}
use Rattle.qc_js.specs.declared.tree.Stmt.TheFolds.{map-Stmt, ind-Stmt, fold-roll-Stmt}
use Rattle.qc_js.specs.declared.tree.Program.{Program}
use Rattle.qc_js.specs.Held.{all_true, is_number, expr_held, holds_expr, stmt_held, holds_stmt, holds_program}
use Rattle.qc_js.specs.Tokens as tokens
use Rattle.qc_js.specs.Tokens.{variable, expr_tokens, stmt_tokens, all_tokens, program_tokens}
use Rattle.qc_js.proofs.Tests.{both-left, both-right}
use Rattle.qc_js_lex.specs.declared.lexeme.Lexeme.{Lexeme}
use Rattle.qc_js_lex.specs.declared.lexeme.Lexeme.TheVariants.{Var, Function, Int, Text, Fixed}
use Rattle.qc_js_lex.specs.Lexemes.{word_lexeme, free_word}
use Rattle.qc_js_lex.specs.Lexemes.{lexeme_of}
use Rattle.qc_js_text.specs.inner.LexemeTokens.{token_of}
use Rattle.qc_js_text.specs.inner.Trees as trees
use Rattle.qc_js_text.specs.inner.Trees.{expr_lexemes, stmt_lexemes, program_lexemes}
use Rattle.qc_js_text.proofs.Spellings.{var_known, function_known, is_known, token_back}

-- the lexemes are those of the tokens, and the grammar names them
pub data Pairs : List Lexeme → List Token → Type 0 where
  none : Pairs [] []
  also : (l : Lexeme) (t : Token) {ls : List Lexeme} {ts : List Token} → lexeme_of t ≡ l → is_known l ≡ true
      → token_of l ≡ t → Pairs ls ts → Pairs (l ∷ ls) (t ∷ ts)

append : {ls ms : List Lexeme} {ts us : List Token} → Pairs ls ts → Pairs ms us → Pairs (ls ++ ms) (ts ++ us)
append none q = q
append (also l t e k b p) q = also l t e k b (append p q)

pub lexemes_of : {ls : List Lexeme} {ts : List Token} → Pairs ls ts → map lexeme_of ts ≡ ls
lexemes_of none = refl
lexemes_of (also l t e k b p) = let r = lexemes_of p in cc

-- no other tokens have these lexemes
pub tokens_of : {ls : List Lexeme} {ts : List Token} → Pairs ls ts → (us : List Token) → map lexeme_of us ≡ ls → us ≡ ts
tokens_of none [] h = refl
tokens_of none (u ∷ us) h = absurd cc
tokens_of (also l t e k b p) [] h = absurd cc
tokens_of (also l t {ls = ls} e k b p) (u ∷ us) h =
    let one : lexeme_of u ≡ l = cc in
    let more : map lexeme_of us ≡ ls = cc in
    let r = tokens_of p us more in
    let same : u ≡ t =
    sym (token_back u (subst (λ z. is_known z ≡ true) (sym one) k)) ∙ ap token_of one ∙ b in
    cc

-- ---- words and marks

var_pair : (x : ℕ) {ls : List Lexeme} {ts : List Token} → is_number x ≡ true → Pairs ls ts
    → Pairs (Var x ∷ ls) (token.Word (variable x) ∷ ts)
var_pair x h p = also (Var x) (token.Word (variable x)) (var_known x h) refl refl p

function_pair : (f : Rt) {ls : List Lexeme} {ts : List Token} → Pairs ls ts
    → Pairs (Function f ∷ ls) (token.Word (word_of f) ∷ ts)
function_pair f p = also (Function f) (token.Word (word_of f)) (function_known f) refl refl p

abbrev Fits : ℕ → Token → Type 0
Fits n t = (ls : List Lexeme) (ts : List Token) → Pairs ls ts → Pairs (Fixed n ∷ ls) (t ∷ ts)

mark_pair : (n b : ℕ) → lexeme_of (token.Mark b) ≡ Fixed n → is_known (Fixed n) ≡ true
    → token_of (Fixed n) ≡ token.Mark b
    → Fits n (token.Mark b)
mark_pair n b e k f ls ts p = also (Fixed n) (token.Mark b) e k f p

word_pair : (n : ℕ) (w : List ℕ) → lexeme_of (token.Word w) ≡ Fixed n → is_known (Fixed n) ≡ true
    → token_of (Fixed n) ≡ token.Word w → Fits n (token.Word w)
word_pair n w e k f ls ts p = also (Fixed n) (token.Word w) e k f p

open_paren : Fits 15 (token.Mark 40)
open_paren = mark_pair 15 40 refl refl refl

close_paren : Fits 16 (token.Mark 41)
close_paren = mark_pair 16 41 refl refl refl

open_brace : Fits 17 (token.Mark 123)
open_brace = mark_pair 17 123 refl refl refl

close_brace : Fits 18 (token.Mark 125)
close_brace = mark_pair 18 125 refl refl refl

open_square : Fits 19 (token.Mark 91)
open_square = mark_pair 19 91 refl refl refl

close_square : Fits 20 (token.Mark 93)
close_square = mark_pair 20 93 refl refl refl

comma : Fits 21 (token.Mark 44)
comma = mark_pair 21 44 refl refl refl

semicolon : Fits 22 (token.Mark 59)
semicolon = mark_pair 22 59 refl refl refl

dot : Fits 23 (token.Mark 46)
dot = mark_pair 23 46 refl refl refl

equals : Fits 24 (token.Mark 61)
equals = mark_pair 24 61 refl refl refl

function_word : Fits 0 (token.Word (codes "function"))
unfolding word_lexeme free_word
function_word = word_pair 0 (codes "function") refl refl refl

query_word : Fits 1 (token.Word (codes "query"))
unfolding word_lexeme free_word
query_word = word_pair 1 (codes "query") refl refl refl

world_word : Fits 2 (token.Word (codes "w"))
unfolding word_lexeme free_word
world_word = word_pair 2 (codes "w") refl refl refl

rt_word : Fits 3 (token.Word (codes "rt"))
unfolding word_lexeme free_word
rt_word = word_pair 3 (codes "rt") refl refl refl

return_word : Fits 4 (token.Word (codes "return"))
unfolding word_lexeme free_word
return_word = word_pair 4 (codes "return") refl refl refl

let_word : Fits 5 (token.Word (codes "let"))
unfolding word_lexeme free_word
let_word = word_pair 5 (codes "let") refl refl refl

const_word : Fits 6 (token.Word (codes "const"))
unfolding word_lexeme free_word
const_word = word_pair 6 (codes "const") refl refl refl

push_word : Fits 7 (token.Word (codes "push"))
unfolding word_lexeme free_word
push_word = word_pair 7 (codes "push") refl refl refl

for_word : Fits 8 (token.Word (codes "for"))
unfolding word_lexeme free_word
for_word = word_pair 8 (codes "for") refl refl refl

of_word : Fits 9 (token.Word (codes "of"))
unfolding word_lexeme free_word
of_word = word_pair 9 (codes "of") refl refl refl

if_word : Fits 10 (token.Word (codes "if"))
unfolding word_lexeme free_word
if_word = word_pair 10 (codes "if") refl refl refl

else_word : Fits 11 (token.Word (codes "else"))
unfolding word_lexeme free_word
else_word = word_pair 11 (codes "else") refl refl refl

true_word : Fits 12 (token.Word (codes "true"))
unfolding word_lexeme free_word
true_word = word_pair 12 (codes "true") refl refl refl

false_word : Fits 13 (token.Word (codes "false"))
unfolding word_lexeme free_word
false_word = word_pair 13 (codes "false") refl refl refl

null_word : Fits 14 (token.Word (codes "null"))
unfolding word_lexeme free_word
null_word = word_pair 14 (codes "null") refl refl refl

-- ---- expressions

abbrev P : Expr → Type 0
P e = holds_expr e ≡ true → Pairs (expr_lexemes e) (expr_tokens e)

abbrev E : Type 0
E = (e : Expr) × P e

abbrev parts : List E → List Expr
parts ws = map (λ (w : E). w.0) ws

abbrev held : List E → Bool
held ws = all_true (map holds_expr (parts ws))

commas_pair : (ws : List E) → held ws ≡ true
    → Pairs (trees.after_commas (map expr_lexemes (parts ws))) (tokens.after_commas (map expr_tokens (parts ws)))
commas_pair [] h = none
commas_pair (w ∷ ws) h =
    comma _ _ (append (w.1 (both-left (holds_expr w.0) (held ws) h))
    (commas_pair ws (both-right (holds_expr w.0) (held ws) h)))

separated_pair : (ws : List E) → held ws ≡ true
    → Pairs (trees.separated (map expr_lexemes (parts ws))) (tokens.separated (map expr_tokens (parts ws)))
separated_pair [] h = none
separated_pair (w ∷ ws) h =
    append (w.1 (both-left (holds_expr w.0) (held ws) h)) (commas_pair ws (both-right (holds_expr w.0) (held ws) h))

layer : (w : Expr-F E) → expr_held (map-Expr Expr Bool holds_expr (map-Expr E Expr (λ e. e.0) w)) ≡ true
    → Pairs (trees.expr_layer (map-Expr Expr (List Lexeme) expr_lexemes (map-Expr E Expr (λ e. e.0) w)))
    (tokens.expr_layer (map-Expr Expr (List Token) expr_tokens (map-Expr E Expr (λ e. e.0) w)))
layer (Expr-F.Var x) h = var_pair x h none
layer Expr-F.World h = world_word [] [] none
layer Expr-F.True h = true_word [] [] none
layer Expr-F.False h = false_word [] [] none
layer Expr-F.Null h = null_word [] [] none
layer (Expr-F.Int n) h = also (Int n) (token.Int n) refl refl refl none
layer (Expr-F.Text t) h = also (Text t) (token.Text t) refl refl refl none
layer (Expr-F.Array ws) h = open_square _ _ (append (separated_pair ws h) (close_square [] [] none))
layer (Expr-F.Call f ws) h =
    rt_word _ _ (dot _ _ (function_pair f (open_paren _ _ (append (separated_pair ws h) (close_paren [] [] none)))))

expr_step : (x : Expr-F Expr) (w : Expr-F E) → map-Expr E Expr (λ e. e.0) w ≡ x → P (roll-Expr x)
expr_step x w is h =
    let l : expr_lexemes (roll-Expr x) ≡ trees.expr_layer (map-Expr Expr (List Lexeme) expr_lexemes x) =
    fold-roll-Expr (List Lexeme) trees.expr_layer x in
    let t : expr_tokens (roll-Expr x) ≡ tokens.expr_layer (map-Expr Expr (List Token) expr_tokens x) =
    fold-roll-Expr (List Token) tokens.expr_layer x in
    let s : holds_expr (roll-Expr x) ≡ expr_held (map-Expr Expr Bool holds_expr x) =
    fold-roll-Expr Bool expr_held x in
    let g : expr_held (map-Expr Expr Bool holds_expr (map-Expr E Expr (λ e. e.0) w)) ≡ true =
    ap (λ z. expr_held (map-Expr Expr Bool holds_expr z)) is ∙ sym s ∙ h in
    rw (l, t, ← is) (layer w g)

pub expr_pair : (e : Expr) → P e
expr_pair = ind-Expr P expr_step

-- ---- statements

abbrev Q : Stmt → Type 0
Q s = holds_stmt s ≡ true → Pairs (stmt_lexemes s) (stmt_tokens s)

abbrev S : Type 0
S = (s : Stmt) × Q s

abbrev lines : List S → List Stmt
lines ws = map (λ (w : S). w.0) ws

abbrev all_held : List S → Bool
all_held ws = all_true (map holds_stmt (lines ws))

joined_pair : (ws : List S) → all_held ws ≡ true
    → Pairs (trees.joined (map stmt_lexemes (lines ws))) (tokens.joined (map stmt_tokens (lines ws)))
joined_pair [] h = none
joined_pair (w ∷ ws) h =
    append (w.1 (both-left (holds_stmt w.0) (all_held ws) h))
    (joined_pair ws (both-right (holds_stmt w.0) (all_held ws) h))

block_pair : (ws : List S) → all_held ws ≡ true
    → Pairs (trees.block_lexemes (map stmt_lexemes (lines ws))) (tokens.block_tokens (map stmt_tokens (lines ws)))
block_pair ws h = open_brace _ _ (append (joined_pair ws h) (close_brace [] [] none))

set_pair : (x : ℕ) (e : Expr) → (is_number x && holds_expr e) ≡ true
    → Pairs (Var x ∷ trees.equals ∷ (expr_lexemes e ++ trees.semicolon ∷ []))
    (token.Word (variable x) ∷ token.Mark 61 ∷ (expr_tokens e ++ token.Mark 59 ∷ []))
set_pair x e h =
    var_pair x (both-left (is_number x) (holds_expr e) h)
    (equals _ _ (append (expr_pair e (both-right (is_number x) (holds_expr e) h)) (semicolon [] [] none)))

stmt_layer : (w : Stmt-F S) → stmt_held (map-Stmt Stmt Bool holds_stmt (map-Stmt S Stmt (λ s. s.0) w)) ≡ true
    → Pairs (trees.stmt_layer (map-Stmt Stmt (List Lexeme) stmt_lexemes (map-Stmt S Stmt (λ s. s.0) w)))
    (tokens.stmt_layer (map-Stmt Stmt (List Token) stmt_tokens (map-Stmt S Stmt (λ s. s.0) w)))
stmt_layer (Stmt-F.Let x) h = let_word _ _ (var_pair x h (semicolon [] [] none))
stmt_layer (Stmt-F.Set x e) h = set_pair x e h
stmt_layer (Stmt-F.Const x e) h = const_word _ _ (set_pair x e h)
stmt_layer (Stmt-F.Collect x ws) h =
    const_word _ _ (var_pair x (both-left (is_number x) (all_held ws) h)
    (equals _ _ (open_square _ _ (close_square _ _ (semicolon _ _
    (block_pair ws (both-right (is_number x) (all_held ws) h)))))))
stmt_layer (Stmt-F.Push x e) h =
    var_pair x (both-left (is_number x) (holds_expr e) h)
    (dot _ _ (push_word _ _ (open_paren _ _
    (append (expr_pair e (both-right (is_number x) (holds_expr e) h))
    (close_paren _ _ (semicolon [] [] none))))))
stmt_layer (Stmt-F.For x e ws) h =
    let g : (holds_expr e && all_held ws) ≡ true = both-right (is_number x) (holds_expr e && all_held ws) h in
    for_word _ _ (open_paren _ _ (const_word _ _
    (var_pair x (both-left (is_number x) (holds_expr e && all_held ws) h)
    (of_word _ _ (append (expr_pair e (both-left (holds_expr e) (all_held ws) g))
    (close_paren _ _ (block_pair ws (both-right (holds_expr e) (all_held ws) g))))))))
stmt_layer (Stmt-F.If e ws vs) h =
    let g : (all_held ws && all_held vs) ≡ true = both-right (holds_expr e) (all_held ws && all_held vs) h in
    if_word _ _ (open_paren _ _
    (append (expr_pair e (both-left (holds_expr e) (all_held ws && all_held vs) h))
    (close_paren _ _ (append (block_pair ws (both-left (all_held ws) (all_held vs) g))
    (else_word _ _ (block_pair vs (both-right (all_held ws) (all_held vs) g)))))))
stmt_layer (Stmt-F.Block ws) h = block_pair ws h

stmt_step : (x : Stmt-F Stmt) (w : Stmt-F S) → map-Stmt S Stmt (λ s. s.0) w ≡ x → Q (roll-Stmt x)
stmt_step x w is h =
    let l : stmt_lexemes (roll-Stmt x) ≡ trees.stmt_layer (map-Stmt Stmt (List Lexeme) stmt_lexemes x) =
    fold-roll-Stmt (List Lexeme) trees.stmt_layer x in
    let t : stmt_tokens (roll-Stmt x) ≡ tokens.stmt_layer (map-Stmt Stmt (List Token) stmt_tokens x) =
    fold-roll-Stmt (List Token) tokens.stmt_layer x in
    let s : holds_stmt (roll-Stmt x) ≡ stmt_held (map-Stmt Stmt Bool holds_stmt x) =
    fold-roll-Stmt Bool stmt_held x in
    let g : stmt_held (map-Stmt Stmt Bool holds_stmt (map-Stmt S Stmt (λ s. s.0) w)) ≡ true =
    ap (λ z. stmt_held (map-Stmt Stmt Bool holds_stmt z)) is ∙ sym s ∙ h in
    rw (l, t, ← is) (stmt_layer w g)

stmt_pair : (s : Stmt) → Q s
stmt_pair = ind-Stmt Q stmt_step

all_pair : (ss : List Stmt) → all_true (map holds_stmt ss) ≡ true
    → Pairs (trees.joined (map stmt_lexemes ss)) (all_tokens ss)
all_pair [] h = none
all_pair (s ∷ ss) h =
    append (stmt_pair s (both-left (holds_stmt s) (all_true (map holds_stmt ss)) h))
    (all_pair ss (both-right (holds_stmt s) (all_true (map holds_stmt ss)) h))

pub program_pair : (p : Program) → holds_program p ≡ true → Pairs (program_lexemes p) (program_tokens p)
program_pair p h =
    function_word _ _ (query_word _ _ (open_paren _ _ (world_word _ _ (comma _ _ (rt_word _ _ (close_paren _ _
    (open_brace _ _ (append (all_pair p.body (both-left (all_true (map holds_stmt p.body)) (holds_expr p.result) h))
    (return_word _ _ (append
    (expr_pair p.result (both-right (all_true (map holds_stmt p.body)) (holds_expr p.result) h))
    (semicolon _ _ (close_brace [] [] none))))))))))))
