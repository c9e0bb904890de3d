-- The layout of a program's tokens is the text by its parts.
use Rattle.std.proofs.Common.{◌≡◌, ℕ, List, [], ◌∷◌, ◌++◌, map, codes, ap, refl, sym, ◌∙◌}
use Rattle.qc_js.specs.declared.token.Token.{Token}
use Rattle.qc_js.specs.declared.token.Token.TheVariants.{Word, Mark}
use Rattle.qc_js.specs.declared.tree.Expr.{Expr}
use Rattle.qc_js.specs.declared.tree.Program.{Program}
use Rattle.qc_js.specs.declared.tree.Stmt.{Stmt}
use Rattle.qc_js.specs.declared.tree.Stmt.TheOpen.{Stmt-F}
use Rattle.qc_js.specs.declared.tree.Stmt.TheViews.{roll-Stmt}
use Rattle.qc_js.specs.declared.tree.Stmt.TheFolds.{map-Stmt, ind-Stmt, fold-roll-Stmt}
use Rattle.qc_js.specs.Tokens.{expr_tokens, stmt_layer, stmt_tokens, block_tokens, joined, all_tokens, variable}
use Rattle.qc_js.specs.Layout.{Left, opens, other, gap_other, after, layout}
use Rattle.qc_js.specs.inner.Text.{expr_text, stmt_step, stmt_text, block_text, lines, program_text, set_text}
use Rattle.qc_js.proofs.Fronts.{assoc}
use Rattle.qc_js.proofs.LaidOut.{tokens_assoc, expr_laid}

-- a statement, which begins after a brace, a semicolon, `)` or `else`
abbrev Laid : List Token → List ℕ → Type 0
Laid ts bs = (us : List Token) → after other (ts ++ us) ≡ 32 ∷ (bs ++ after other us)

abbrev P : Stmt → Type 0
P s = Laid (stmt_tokens s) (stmt_text s)

abbrev E : Type 0
E = (s : Stmt) × P s

abbrev toks : List E → List (List Token)
toks ws = map stmt_tokens (map (λ (w : E). w.0) ws)

abbrev texts : List E → List (List ℕ)
texts ws = map stmt_text (map (λ (w : E). w.0) ws)

lines_laid : (ws : List E) (us : List Token) → after other (joined (toks ws) ++ us) ≡ lines (texts ws) ++ after other us
lines_laid [] us = refl
lines_laid (w ∷ ws) us =
    ap (after other) (tokens_assoc (stmt_tokens w.0) (joined (toks ws)) us) ∙ w.1 (joined (toks ws) ++ us)
    ∙ ap (λ z. 32 ∷ (stmt_text w.0 ++ z)) (lines_laid ws us)
    ∙ ap (λ z. 32 ∷ z) (sym (assoc (stmt_text w.0) (lines (texts ws)) (after other us)))

block_laid : (ws : List E) → Laid (block_tokens (toks ws)) (block_text (texts ws))
block_laid ws us =
    ap (λ z. 32 ∷ 123 ∷ after other z) (tokens_assoc (joined (toks ws)) (Mark 125 ∷ []) us)
    ∙ ap (λ z. 32 ∷ 123 ∷ z) (lines_laid ws (Mark 125 ∷ us)
    ∙ sym (assoc (lines (texts ws)) (32 ∷ 125 ∷ []) (after other us)))

-- an expression and what ends it
expr_end : (l : Left) (e : Expr) (m : List Token) (b : List ℕ) (us : List Token)
    → after other (m ++ us) ≡ b ++ after other us
    → after l ((expr_tokens e ++ m) ++ us) ≡ gap_other l ++ ((expr_text e ++ b) ++ after other us)
expr_end l e m b us h =
    ap (after l) (tokens_assoc (expr_tokens e) m us) ∙ expr_laid e l (m ++ us)
    ∙ ap (λ z. gap_other l ++ (expr_text e ++ z)) h
    ∙ ap (λ z. gap_other l ++ z) (sym (assoc (expr_text e) b (after other us)))

set_laid : (n : ℕ) (e : Expr) → Laid (Word (variable n) ∷ Mark 61 ∷ (expr_tokens e ++ Mark 59 ∷ []))
    (set_text n (expr_text e))
set_laid n e us =
    ap (λ z. 32 ∷ (variable n ++ (32 ∷ 61 ∷ z))) (expr_end other e (Mark 59 ∷ []) (59 ∷ []) us refl)
    ∙ ap (λ z. 32 ∷ z) (sym (assoc (variable n) (32 ∷ 61 ∷ 32 ∷ (expr_text e ++ 59 ∷ [])) (after other us)))

layer : (w : Stmt-F E) → Laid (stmt_layer (map-Stmt Stmt (List Token) stmt_tokens (map-Stmt E Stmt (λ e. e.0) w)))
    (stmt_step (map-Stmt Stmt (List ℕ) stmt_text (map-Stmt E Stmt (λ e. e.0) w)))
layer (Stmt-F.Let n) =
    λ us. ap (λ z. 32 ∷ 108 ∷ 101 ∷ 116 ∷ 32 ∷ z) (sym (assoc (variable n) (59 ∷ []) (after other us)))
layer (Stmt-F.Set n e) = set_laid n e
layer (Stmt-F.Const n e) = λ us. ap (λ z. 32 ∷ (codes "const" ++ z)) (set_laid n e us)
layer (Stmt-F.Collect n ws) =
    λ us. ap (λ z. 32 ∷ (codes "const " ++ (variable n ++ (codes " = [];" ++ z)))) (block_laid ws us)
    ∙ ap (λ z. 32 ∷ (codes "const " ++ z))
    (sym (assoc (variable n) (codes " = []; " ++ block_text (texts ws)) (after other us)))
layer (Stmt-F.Push n e) =
    λ us. ap (λ z. 32 ∷ (variable n ++ (codes ".push(" ++ z)))
    (expr_end opens e (Mark 41 ∷ Mark 59 ∷ []) (41 ∷ 59 ∷ []) us refl)
    ∙ ap (λ z. 32 ∷ z) (sym (assoc (variable n) (codes ".push(" ++ (expr_text e ++ codes ");")) (after other us)))
layer (Stmt-F.For n e ws) = λ us. ap (λ z. 32 ∷ (codes "for (const " ++ (variable n ++ (codes " of" ++ z))))
    (expr_end other e (Mark 41 ∷ block_tokens (toks ws)) (41 ∷ 32 ∷ block_text (texts ws)) us
    (ap (λ z. 41 ∷ z) (block_laid ws us)))
    ∙ ap (λ z. 32 ∷ (codes "for (const " ++ z))
    (sym (assoc (variable n) (codes " of " ++ (expr_text e ++ (codes ") " ++ block_text (texts ws)))) (after other us)))
layer (Stmt-F.If e ws vs) = λ us. ap (λ z. 32 ∷ (codes "if (" ++ z))
    (expr_end opens e (Mark 41 ∷ (block_tokens (toks ws) ++ Word (codes "else") ∷ block_tokens (toks vs)))
    (41 ∷ 32 ∷ (block_text (texts ws) ++ (codes " else " ++ block_text (texts vs)))) us
    (ap (λ z. 41 ∷ z) (ap (after other) (tokens_assoc (block_tokens (toks ws))
    (Word (codes "else") ∷ block_tokens (toks vs)) us)
    ∙ block_laid ws (Word (codes "else") ∷ (block_tokens (toks vs) ++ us))
    ∙ ap (λ z. 32 ∷ (block_text (texts ws) ++ (codes " else" ++ z))) (block_laid vs us)
    ∙ ap (λ z. 32 ∷ z) (sym (assoc (block_text (texts ws)) (codes " else " ++ block_text (texts vs))
    (after other us))))))
    ∙ ap (λ z. 32 ∷ (codes "if (" ++ z))
    (ap (λ z. z ++ after other us) (sym (assoc (expr_text e) (codes ") ")
    (block_text (texts ws) ++ (codes " else " ++ block_text (texts vs))))))
layer (Stmt-F.Block ws) = block_laid ws

step : (x : Stmt-F Stmt) (w : Stmt-F E) → map-Stmt E Stmt (λ e. e.0) w ≡ x → P (roll-Stmt x)
step x w is =
    let t : stmt_tokens (roll-Stmt x) ≡ stmt_layer (map-Stmt Stmt (List Token) stmt_tokens x) =
    fold-roll-Stmt (List Token) stmt_layer x in
    let s : stmt_text (roll-Stmt x) ≡ stmt_step (map-Stmt Stmt (List ℕ) stmt_text x) =
    fold-roll-Stmt (List ℕ) stmt_step x in
    rw (t, s, ← is) (layer w)

pub stmt_laid : (s : Stmt) → P s
stmt_laid = ind-Stmt P step

all_laid : (ss : List Stmt) (us : List Token)
    → after other (all_tokens ss ++ us) ≡ lines (map stmt_text ss) ++ after other us
all_laid [] us = refl
all_laid (s ∷ ss) us =
    ap (after other) (tokens_assoc (stmt_tokens s) (all_tokens ss) us) ∙ stmt_laid s (all_tokens ss ++ us)
    ∙ ap (λ z. 32 ∷ (stmt_text s ++ z)) (all_laid ss us)
    ∙ ap (λ z. 32 ∷ z) (sym (assoc (stmt_text s) (lines (map stmt_text ss)) (after other us)))

-- what is put is the layout
pub program_laid : (p : Program) → program_text p ≡ layout p
program_laid p =
    sym (ap (λ z. codes "function query(w, rt) {" ++ (z ++ 10 ∷ []))
    (all_laid p.body (Word (codes "return") ∷ (expr_tokens p.result ++ Mark 59 ∷ Mark 125 ∷ []))
    ∙ ap (λ z. lines (map stmt_text p.body) ++ (codes " return" ++ z))
    (expr_laid p.result other (Mark 59 ∷ Mark 125 ∷ [])))
    ∙ ap (λ z. codes "function query(w, rt) {" ++ z)
    (assoc (lines (map stmt_text p.body)) (codes " return " ++ (expr_text p.result ++ codes "; }")) (10 ∷ [])
    ∙ ap (λ z. lines (map stmt_text p.body) ++ (codes " return " ++ z)) (assoc (expr_text p.result) (codes "; }")
    (10 ∷ []))))
