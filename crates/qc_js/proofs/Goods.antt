-- The tokens of a tree that code can hold are good.
use Rattle.std.proofs.Common.{◌≡◌, ℕ, ◌+◌, ◌<◌, ◌^◌, ◌%◌, List, [], ◌∷◌, ◌++◌, map, Bool, true, ◌&&◌, codes, decimal}
use Rattle.std.proofs.Common.{refl, sym, ap, ◌∙◌, arith}
use Rattle.std.proofs.lemmas.Bool.Decides.{nat_tests}
use Rattle.std.proofs.lemmas.Fmt.{decimal_by_steps_wide}
use Rattle.std.specs.Char.{is_ascii_alphanumeric}
use Rattle.qc_rt.specs.declared.function.Rt.{Rt}
use Rattle.qc_rt.specs.declared.function.Rt.TheVariants as rt
use Rattle.qc_rt.specs.Table.{word_of}
use Rattle.qc_js.specs.declared.token.Token.{Token}
use Rattle.qc_js.specs.declared.token.Token.TheVariants.{Word, Mark}
use Rattle.qc_js.specs.declared.tree.Expr.{Expr}
use Rattle.qc_js.specs.declared.tree.Expr.TheOpen.{Expr-F}
use Rattle.qc_js.specs.declared.tree.Expr.TheViews.{roll-Expr}
use Rattle.qc_js.specs.declared.tree.Expr.TheFolds.{map-Expr, ind-Expr, fold-roll-Expr}
use Rattle.qc_js.specs.declared.tree.Stmt.{Stmt}
use Rattle.qc_js.specs.declared.tree.Stmt.TheOpen.{Stmt-F}
use Rattle.qc_js.specs.declared.tree.Stmt.TheViews.{roll-Stmt}
use Rattle.qc_js.specs.declared.tree.Stmt.TheFolds.{map-Stmt, ind-Stmt, fold-roll-Stmt}
use Rattle.qc_js.specs.declared.tree.Program.{Program}
use Rattle.qc_js.specs.Held.{all_true, is_number, expr_held, holds_expr, stmt_held, holds_stmt, holds_program}
use Rattle.qc_js.specs.Layout.{layout}
use Rattle.qc_js.specs.Spelling.{Spells}
use Rattle.qc_js.specs.WellFormed.{well_formed}
use Rattle.qc_js.specs.Tokens.{variable, separated, after_commas, joined, block_tokens, expr_layer, expr_tokens}
use Rattle.qc_js.specs.Tokens.{stmt_layer, stmt_tokens, all_tokens, program_tokens}
use Rattle.qc_js.specs.inner.Good.{all_alphanumeric, is_word, is_good, all_good}
use Rattle.qc_js.proofs.Scanned.{layout_scanned}
use Rattle.qc_js.proofs.Tests.{both, both-left, both-right}

-- ---- lists and words

good_append : (ts us : List Token) → all_good ts ≡ true → all_good us ≡ true → all_good (ts ++ us) ≡ true
good_append [] us p q = q
good_append (t ∷ ts) us p q =
    both (is_good t) (all_good (ts ++ us)) (both-left (is_good t) (all_good ts) p)
    (good_append ts us (both-right (is_good t) (all_good ts) p) q)

alphanumeric_append : (a b : List ℕ) → all_alphanumeric a ≡ true → all_alphanumeric b ≡ true
    → all_alphanumeric (a ++ b) ≡ true
alphanumeric_append [] b p q = q
alphanumeric_append (c ∷ a) b p q =
    both (is_ascii_alphanumeric c) (all_alphanumeric (a ++ b))
    (both-left (is_ascii_alphanumeric c) (all_alphanumeric a) p)
    (alphanumeric_append a b (both-right (is_ascii_alphanumeric c) (all_alphanumeric a) p) q)

digit_alphanumeric : (d : ℕ) → d < 10 → all_alphanumeric ((48 + d) ∷ []) ≡ true
digit_alphanumeric d l = let e : is_ascii_alphanumeric (48 + d) ≡ true = grind (arith, nat_tests) in rw e refl

decimal_alphanumeric : (n : ℕ) → n < 10 ^ 64 → all_alphanumeric (decimal n) ≡ true
decimal_alphanumeric n l =
    decimal_by_steps_wide (λ n ds. all_alphanumeric ds ≡ true) digit_alphanumeric
    (λ n ds h p. alphanumeric_append ds _ p (digit_alphanumeric (n % 10) (omega arith))) n l

pub variable_good : (x : ℕ) → is_number x ≡ true → is_word (variable x) ≡ true
variable_good x h = decimal_alphanumeric x (grind (arith, nat_tests))

name_good : (f : Rt) → is_word (word_of f) ≡ true
name_good rt.Not = refl
name_good rt.Neg = refl
name_good rt.Abs = refl
name_good rt.DivBy = refl
name_good rt.ModBy = refl
name_good rt.Count = refl
name_good rt.Sum = refl
name_good rt.Min = refl
name_good rt.Max = refl
name_good rt.Avg = refl
name_good rt.Element = refl
name_good rt.Flatten = refl
name_good rt.Distinct = refl
name_good rt.Single = refl
name_good rt.Rec = refl
name_good rt.Dot = refl
name_good rt.Project = refl
name_good rt.Left = refl
name_good rt.Right = refl
name_good rt.Brand = refl
name_good rt.Unbrand = refl
name_good rt.Cast = refl
name_good rt.Order = refl
name_good rt.Group = refl
name_good rt.Like = refl
name_good rt.Eq = refl
name_good rt.Lt = refl
name_good rt.Le = refl
name_good rt.And = refl
name_good rt.Or = refl
name_good rt.Add = refl
name_good rt.Sub = refl
name_good rt.Mul = refl
name_good rt.Least = refl
name_good rt.Greatest = refl
name_good rt.Union = refl
name_good rt.Except = refl
name_good rt.Intersect = refl
name_good rt.Member = refl
name_good rt.Cat = refl
name_good rt.Merge = refl
name_good rt.Glue = refl
name_good rt.Nothing = refl
name_good rt.IsLeft = refl
name_good rt.Payload = refl

-- ---- expressions

abbrev P : Expr → Type 0
P e = holds_expr e ≡ true → all_good (expr_tokens e) ≡ true

abbrev E : Type 0
E = (e : Expr) × P e

abbrev toks : List E → List (List Token)
toks ws = map expr_tokens (map (λ (w : E). w.0) ws)

abbrev held : List E → Bool
held ws = all_true (map holds_expr (map (λ (w : E). w.0) ws))

commas_good : (ws : List E) → held ws ≡ true → all_good (after_commas (toks ws)) ≡ true
commas_good [] h = refl
commas_good (w ∷ ws) h =
    good_append (expr_tokens w.0) (after_commas (toks ws)) (w.1 (both-left (holds_expr w.0) (held ws) h))
    (commas_good ws (both-right (holds_expr w.0) (held ws) h))

separated_good : (ws : List E) → held ws ≡ true → all_good (separated (toks ws)) ≡ true
separated_good [] h = refl
separated_good (w ∷ ws) h =
    good_append (expr_tokens w.0) (after_commas (toks ws)) (w.1 (both-left (holds_expr w.0) (held ws) h))
    (commas_good ws (both-right (holds_expr w.0) (held ws) h))

call_good : (f : Rt) (ts : List Token) → all_good ts ≡ true
    → all_good (Word (codes "rt") ∷ Mark 46 ∷ Word (word_of f) ∷ Mark 40 ∷ (ts ++ Mark 41 ∷ [])) ≡ true
call_good f ts h = rw (name_good f) (good_append ts (Mark 41 ∷ []) h refl)

layer : (w : Expr-F E) → expr_held (map-Expr Expr Bool holds_expr (map-Expr E Expr (λ e. e.0) w)) ≡ true
    → all_good (expr_layer (map-Expr Expr (List Token) expr_tokens (map-Expr E Expr (λ e. e.0) w))) ≡ true
layer (Expr-F.Var x) h = rw (variable_good x h) refl
layer Expr-F.World h = refl
layer Expr-F.True h = refl
layer Expr-F.False h = refl
layer Expr-F.Null h = refl
layer (Expr-F.Int n) h = rw h refl
layer (Expr-F.Text t) h = rw h refl
layer (Expr-F.Array ws) h = good_append (separated (toks ws)) (Mark 93 ∷ []) (separated_good ws h) refl
layer (Expr-F.Call f ws) h = call_good f (separated (toks ws)) (separated_good ws h)

step : (x : Expr-F Expr) (w : Expr-F E) → map-Expr E Expr (λ e. e.0) w ≡ x → P (roll-Expr x)
step x w is h =
    let t : expr_tokens (roll-Expr x) ≡ expr_layer (map-Expr Expr (List Token) expr_tokens x) =
    fold-roll-Expr (List Token) expr_layer x in
    let s : holds_expr (roll-Expr x) ≡ expr_held (map-Expr Expr Bool holds_expr x) =
    fold-roll-Expr Bool expr_held x in
    let g : expr_held (map-Expr Expr Bool holds_expr (map-Expr E Expr (λ e. e.0) w)) ≡ true =
    ap (λ z. expr_held (map-Expr Expr Bool holds_expr z)) is ∙ sym s ∙ h in
    ap all_good t ∙ ap (λ z. all_good (expr_layer (map-Expr Expr (List Token) expr_tokens z))) (sym is) ∙ layer w g

pub expr_good : (e : Expr) → P e
expr_good = ind-Expr P step

-- ---- statements

abbrev Q : Stmt → Type 0
Q s = holds_stmt s ≡ true → all_good (stmt_tokens s) ≡ true

abbrev S : Type 0
S = (s : Stmt) × Q s

abbrev lines : List S → List (List Token)
lines ws = map stmt_tokens (map (λ (w : S). w.0) ws)

abbrev all_held : List S → Bool
all_held ws = all_true (map holds_stmt (map (λ (w : S). w.0) ws))

joined_good : (ws : List S) → all_held ws ≡ true → all_good (joined (lines ws)) ≡ true
joined_good [] h = refl
joined_good (w ∷ ws) h =
    good_append (stmt_tokens w.0) (joined (lines ws)) (w.1 (both-left (holds_stmt w.0) (all_held ws) h))
    (joined_good ws (both-right (holds_stmt w.0) (all_held ws) h))

block_good : (ws : List S) → all_held ws ≡ true → all_good (block_tokens (lines ws)) ≡ true
block_good ws h = good_append (joined (lines ws)) (Mark 125 ∷ []) (joined_good ws h) refl

-- a word and good tokens
word_then : (w : List ℕ) (ts : List Token) → is_word w ≡ true → all_good ts ≡ true → all_good (Word w ∷ ts) ≡ true
word_then w ts p q = both (is_word w) (all_good ts) p q

-- a variable, and what follows
variable_then : (x : ℕ) (b : Bool) (ts : List Token) → (is_number x && b) ≡ true → all_good ts ≡ true
    → all_good (Word (variable x) ∷ ts) ≡ true
variable_then x b ts h g = word_then (variable x) ts (variable_good x (both-left (is_number x) b h)) g

-- a variable, a mark, an expression and what follows
set_good : (x : ℕ) (e : Expr) → (is_number x && holds_expr e) ≡ true
    → all_good (Word (variable x) ∷ Mark 61 ∷ (expr_tokens e ++ Mark 59 ∷ [])) ≡ true
set_good x e h =
    variable_then x (holds_expr e) (Mark 61 ∷ (expr_tokens e ++ Mark 59 ∷ [])) h
    (good_append (expr_tokens e) (Mark 59 ∷ []) (expr_good e (both-right (is_number x) (holds_expr e) h)) refl)

stmt_layer_good : (w : Stmt-F S) → stmt_held (map-Stmt Stmt Bool holds_stmt (map-Stmt S Stmt (λ s. s.0) w)) ≡ true
    → all_good (stmt_layer (map-Stmt Stmt (List Token) stmt_tokens (map-Stmt S Stmt (λ s. s.0) w))) ≡ true
stmt_layer_good (Stmt-F.Let x) h = word_then (variable x) (Mark 59 ∷ []) (variable_good x h) refl
stmt_layer_good (Stmt-F.Set x e) h = set_good x e h
stmt_layer_good (Stmt-F.Const x e) h = set_good x e h
stmt_layer_good (Stmt-F.Collect x ws) h =
    variable_then x (all_held ws) (Mark 61 ∷ Mark 91 ∷ Mark 93 ∷ Mark 59 ∷ block_tokens (lines ws)) h
    (block_good ws (both-right (is_number x) (all_held ws) h))
stmt_layer_good (Stmt-F.Push x e) h =
    variable_then x (holds_expr e)
    (Mark 46 ∷ Word (codes "push") ∷ Mark 40 ∷ (expr_tokens e ++ Mark 41 ∷ Mark 59 ∷ [])) h
    (good_append (expr_tokens e) (Mark 41 ∷ Mark 59 ∷ [])
    (expr_good e (both-right (is_number x) (holds_expr e) h)) refl)
stmt_layer_good (Stmt-F.For x e ws) h =
    let g : (holds_expr e && all_held ws) ≡ true = both-right (is_number x) (holds_expr e && all_held ws) h in
    variable_then x (holds_expr e && all_held ws)
    (Word (codes "of") ∷ (expr_tokens e ++ Mark 41 ∷ block_tokens (lines ws))) h
    (good_append (expr_tokens e) (Mark 41 ∷ block_tokens (lines ws))
    (expr_good e (both-left (holds_expr e) (all_held ws) g))
    (block_good ws (both-right (holds_expr e) (all_held ws) g)))
stmt_layer_good (Stmt-F.If e ws vs) h =
    let g : (all_held ws && all_held vs) ≡ true = both-right (holds_expr e) (all_held ws && all_held vs) h in
    good_append (expr_tokens e) (Mark 41 ∷ (block_tokens (lines ws) ++ Word (codes "else") ∷ block_tokens (lines vs)))
    (expr_good e (both-left (holds_expr e) (all_held ws && all_held vs) h))
    (good_append (block_tokens (lines ws)) (Word (codes "else") ∷ block_tokens (lines vs))
    (block_good ws (both-left (all_held ws) (all_held vs) g))
    (block_good vs (both-right (all_held ws) (all_held vs) g)))
stmt_layer_good (Stmt-F.Block ws) h = block_good ws h

stmt_step : (x : Stmt-F Stmt) (w : Stmt-F S) → map-Stmt S Stmt (λ s. s.0) w ≡ x → Q (roll-Stmt x)
stmt_step x w is h =
    let t : stmt_tokens (roll-Stmt x) ≡ stmt_layer (map-Stmt Stmt (List Token) stmt_tokens x) =
    fold-roll-Stmt (List Token) stmt_layer x in
    let s : holds_stmt (roll-Stmt x) ≡ stmt_held (map-Stmt Stmt Bool holds_stmt x) =
    fold-roll-Stmt Bool stmt_held x in
    let g : stmt_held (map-Stmt Stmt Bool holds_stmt (map-Stmt S Stmt (λ s. s.0) w)) ≡ true =
    ap (λ z. stmt_held (map-Stmt Stmt Bool holds_stmt z)) is ∙ sym s ∙ h in
    ap all_good t ∙ ap (λ z. all_good (stmt_layer (map-Stmt Stmt (List Token) stmt_tokens z))) (sym is)
    ∙ stmt_layer_good w g

stmt_good : (s : Stmt) → Q s
stmt_good = ind-Stmt Q stmt_step

all_tokens_good : (ss : List Stmt) → all_true (map holds_stmt ss) ≡ true → all_good (all_tokens ss) ≡ true
all_tokens_good [] h = refl
all_tokens_good (s ∷ ss) h =
    good_append (stmt_tokens s) (all_tokens ss)
    (stmt_good s (both-left (holds_stmt s) (all_true (map holds_stmt ss)) h))
    (all_tokens_good ss (both-right (holds_stmt s) (all_true (map holds_stmt ss)) h))

pub program_good : (p : Program) → holds_program p ≡ true → all_good (program_tokens p) ≡ true
program_good p h =
    good_append (all_tokens p.body) (Word (codes "return") ∷ (expr_tokens p.result ++ Mark 59 ∷ Mark 125 ∷ []))
    (all_tokens_good p.body (both-left (all_true (map holds_stmt p.body)) (holds_expr p.result) h))
    (good_append (expr_tokens p.result) (Mark 59 ∷ Mark 125 ∷ [])
    (expr_good p.result (both-right (all_true (map holds_stmt p.body)) (holds_expr p.result) h)) refl)

-- the layout of a program spells it
pub layout_spells : (p : Program) → holds_program p ≡ true → well_formed p ≡ true → Spells (layout p) p
layout_spells p h w =
    record { held = h; program = w; tokens = layout_scanned (program_tokens p) (program_good p h) }
