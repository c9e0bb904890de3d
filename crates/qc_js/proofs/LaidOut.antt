-- The layout of a tree's tokens is the text by its parts.
use Rattle.std.proofs.Common.{◌≡◌, ℕ, List, [], ◌∷◌, ◌++◌, map, true, ap, refl, sym, ◌∙◌}
use Rattle.qc_js.specs.declared.token.Token.{Token}
use Rattle.qc_js.specs.declared.token.Token.TheVariants.{Word, Mark}
use Rattle.qc_rt.specs.declared.function.Rt.{Rt}
use Rattle.qc_rt.specs.declared.function.Rt.TheVariants as rt
use Rattle.qc_js.specs.declared.tree.Expr.{Expr}
use Rattle.qc_js.specs.declared.tree.Expr.TheOpen.{Expr-F}
use Rattle.qc_js.specs.declared.tree.Expr.TheViews.{roll-Expr}
use Rattle.qc_js.specs.declared.tree.Expr.TheFolds.{map-Expr, ind-Expr, fold-roll-Expr}
use Rattle.qc_rt.specs.Table.{word_of}
use Rattle.qc_js.specs.Tokens.{expr_layer, expr_tokens, separated, after_commas}
use Rattle.qc_js.specs.Layout.{Left, opens, keyword, other, left, gap_mark, gap_other, is_tight, after, pieces}
use Rattle.qc_js.specs.inner.Text.{expr_step, expr_text, parts, behind_comma}
use Rattle.qc_js.proofs.Fronts.{assoc}

-- in each place these tokens are laid out as this text
abbrev Laid : List Token → List ℕ → Type 0
Laid ts bs = (l : Left) (us : List Token) → after l (ts ++ us) ≡ gap_other l ++ (bs ++ after other us)

pub tokens_assoc : (a b c : List Token) → (a ++ b) ++ c ≡ a ++ (b ++ c)
tokens_assoc [] b c = refl
tokens_assoc (x ∷ a) b c = ap (λ l. x ∷ l) (tokens_assoc a b c)

abbrev P : Expr → Type 0
P e = Laid (expr_tokens e) (expr_text e)

abbrev E : Type 0
E = (e : Expr) × P e

abbrev toks : List E → List (List Token)
toks ws = map expr_tokens (map (λ (w : E). w.0) ws)

abbrev texts : List E → List (List ℕ)
texts ws = map expr_text (map (λ (w : E). w.0) ws)

more_items : (m : ℕ) → is_tight m ≡ true → (ws : List E) (us : List Token)
    → after other (after_commas (toks ws) ++ Mark m ∷ us)
    ≡ pieces behind_comma (texts ws) ++ (m ∷ after (left (Mark m)) us)
more_items m t [] us = rw t refl
more_items m t (w ∷ ws) us =
    ap (λ z. 44 ∷ after other z) (tokens_assoc (expr_tokens w.0) (after_commas (toks ws)) (Mark m ∷ us))
    ∙ ap (λ z. 44 ∷ z) (w.1 other (after_commas (toks ws) ++ Mark m ∷ us))
    ∙ ap (λ z. 44 ∷ 32 ∷ (expr_text w.0 ++ z)) (more_items m t ws us)
    ∙ ap (λ z. 44 ∷ 32 ∷ z) (sym (assoc (expr_text w.0) (pieces behind_comma (texts ws))
    (m ∷ after (left (Mark m)) us)))

items : (m : ℕ) → is_tight m ≡ true → (ws : List E) (us : List Token)
    → after opens (separated (toks ws) ++ Mark m ∷ us) ≡ parts (texts ws) ++ (m ∷ after (left (Mark m)) us)
items m t [] us = refl
items m t (w ∷ ws) us = ap (after opens) (tokens_assoc (expr_tokens w.0) (after_commas (toks ws)) (Mark m ∷ us))
    ∙ w.1 opens (after_commas (toks ws) ++ Mark m ∷ us)
    ∙ ap (λ z. expr_text w.0 ++ z) (more_items m t ws us)
    ∙ sym (assoc (expr_text w.0) (pieces behind_comma (texts ws)) (m ∷ after (left (Mark m)) us))

open_square_gap : (l : Left) → gap_mark l 91 ≡ gap_other l
open_square_gap opens = refl
open_square_gap keyword = refl
open_square_gap other = refl

name_left : (f : Rt) → left (Word (word_of f)) ≡ other
name_left rt.Not = refl
name_left rt.Neg = refl
name_left rt.Abs = refl
name_left rt.DivBy = refl
name_left rt.ModBy = refl
name_left rt.Count = refl
name_left rt.Sum = refl
name_left rt.Min = refl
name_left rt.Max = refl
name_left rt.Avg = refl
name_left rt.Element = refl
name_left rt.Flatten = refl
name_left rt.Distinct = refl
name_left rt.Single = refl
name_left rt.Rec = refl
name_left rt.Dot = refl
name_left rt.Project = refl
name_left rt.Left = refl
name_left rt.Right = refl
name_left rt.Brand = refl
name_left rt.Unbrand = refl
name_left rt.Cast = refl
name_left rt.Order = refl
name_left rt.Group = refl
name_left rt.Like = refl
name_left rt.Eq = refl
name_left rt.Lt = refl
name_left rt.Le = refl
name_left rt.And = refl
name_left rt.Or = refl
name_left rt.Add = refl
name_left rt.Sub = refl
name_left rt.Mul = refl
name_left rt.Least = refl
name_left rt.Greatest = refl
name_left rt.Union = refl
name_left rt.Except = refl
name_left rt.Intersect = refl
name_left rt.Member = refl
name_left rt.Cat = refl
name_left rt.Merge = refl
name_left rt.Glue = refl
name_left rt.Nothing = refl
name_left rt.IsLeft = refl
name_left rt.Payload = refl

layer : (w : Expr-F E) → Laid (expr_layer (map-Expr Expr (List Token) expr_tokens (map-Expr E Expr (λ e. e.0) w)))
    (expr_step (map-Expr Expr (List ℕ) expr_text (map-Expr E Expr (λ e. e.0) w)))
layer (Expr-F.Var n) = λ l us. refl
layer Expr-F.World = λ l us. refl
layer Expr-F.True = λ l us. refl
layer Expr-F.False = λ l us. refl
layer Expr-F.Null = λ l us. refl
layer (Expr-F.Int n) = λ l us. refl
layer (Expr-F.Text t) = λ l us. refl
layer (Expr-F.Array ws) = λ l us. rw (open_square_gap l) (ap (λ z. gap_other l ++ (91 ∷ z))
    (ap (after opens) (tokens_assoc (separated (toks ws)) (Mark 93 ∷ []) us) ∙ items 93 refl ws us
    ∙ sym (assoc (parts (texts ws)) (93 ∷ []) (after other us))))
layer (Expr-F.Call f ws) = λ l us. rw (name_left f) (ap (λ z. gap_other l ++ (114 ∷ 116 ∷ 46 ∷ z))
    (ap (λ z. word_of f ++ (40 ∷ after opens z)) (tokens_assoc (separated (toks ws)) (Mark 41 ∷ []) us)
    ∙ ap (λ z. word_of f ++ (40 ∷ z)) (items 41 refl ws us ∙ sym (assoc (parts (texts ws)) (41 ∷ []) (after other us)))
    ∙ sym (assoc (word_of f) (40 ∷ (parts (texts ws) ++ 41 ∷ [])) (after other us))))

step : (x : Expr-F Expr) (w : Expr-F E) → map-Expr E Expr (λ e. e.0) w ≡ x → P (roll-Expr x)
step x w is =
    let t : expr_tokens (roll-Expr x) ≡ expr_layer (map-Expr Expr (List Token) expr_tokens x) =
    fold-roll-Expr (List Token) expr_layer x in
    let s : expr_text (roll-Expr x) ≡ expr_step (map-Expr Expr (List ℕ) expr_text x) =
    fold-roll-Expr (List ℕ) expr_step x in
    rw (t, s, ← is) (layer w)

pub expr_laid : (e : Expr) → P e
expr_laid = ind-Expr P step
