-- The lexemes of tokens open as many brackets.
use Rattle.std.proofs.Common.{◌≡◌, ℕ, ◌≤◌, List, [], ◌∷◌, Bool, true, false, ◌==◌, not, nat_lt}
use Rattle.std.proofs.Common.{if◌then◌else◌, refl, sym, ap, ◌∙◌, arith, subst}
use Rattle.std.proofs.lemmas.Bool.Decides.{nat_tests}
use Rattle.qc_js.specs.declared.token.Token.{Token}
use Rattle.qc_js.specs.declared.token.Token.TheVariants as token
use Rattle.qc_js.proofs.Tests.{both-left, both-right, both}
use Rattle.qc_js_lex.specs.declared.lexeme.Lexeme.{Lexeme}
use Rattle.qc_js_lex.specs.declared.lexeme.Lexeme.TheVariants.{Var, Function, Int, Text, Fixed}
use Rattle.qc_js_text.specs.Reading.{open_behind, depth_from}
use Rattle.qc_js_text.specs.inner.Depths as depths
use Rattle.qc_js_text.specs.inner.Depths.{shallow_from}
use Rattle.qc_js_text.specs.inner.LexemeTokens.{token_of, quiet_token, fixed_token}
use Rattle.qc_js_text.proofs.Pairs.{Pairs, none, also}

module _ (n : ℕ) where
  abbrev IsQuiet : Token → Type 0
  IsQuiet t = open_behind n t ≡ n

  quiet_if : (t : Bool) (a b : Token) → IsQuiet a → IsQuiet b → IsQuiet (if t then a else b)
  quiet_if true a b p q = p
  quiet_if false a b p q = q

  quiet : (k : ℕ) → IsQuiet (quiet_token k)
  quiet k =
      quiet_if (k == 0) _ _ refl (quiet_if (k == 1) _ _ refl (quiet_if (k == 2) _ _ refl (quiet_if (k == 3) _ _ refl
      (quiet_if (k == 4) _ _ refl (quiet_if (k == 5) _ _ refl (quiet_if (k == 6) _ _ refl (quiet_if (k == 7) _ _ refl
      (quiet_if (k == 8) _ _ refl (quiet_if (k == 9) _ _ refl (quiet_if (k == 10) _ _ refl
      (quiet_if (k == 11) _ _ refl (quiet_if (k == 12) _ _ refl (quiet_if (k == 13) _ _ refl
      (quiet_if (k == 14) _ _ refl (quiet_if (k == 21) _ _ refl (quiet_if (k == 22) _ _ refl
      (quiet_if (k == 23) _ _ refl (quiet_if (k == 24) _ (token.Mark 0) refl refl))))))))))))))))))

  same_if : (t : Bool) (x y : ℕ) (a b : Token) → x ≡ open_behind n a → y ≡ open_behind n b
      → (if t then x else y) ≡ open_behind n (if t then a else b)
  same_if true x y a b p q = p
  same_if false x y a b p q = q

  fixed_same : (k : ℕ) → depths.open_behind n (Fixed k) ≡ open_behind n (fixed_token k)
  fixed_same k =
      same_if (k == 15) _ _ _ _ refl (same_if (k == 16) _ _ _ _ refl (same_if (k == 17) _ _ _ _ refl
      (same_if (k == 18) _ _ _ _ refl (same_if (k == 19) _ _ _ _ refl
      (same_if (k == 20) _ _ _ (quiet_token k) refl (sym (quiet k)))))))

  same : (l : Lexeme) → depths.open_behind n l ≡ open_behind n (token_of l)
  same (Var x) = refl
  same (Function f) = refl
  same (Int z) = refl
  same (Text t) = refl
  same (Fixed k) = fixed_same k

not_below : (a b : ℕ) → a ≤ b → not (nat_lt b a) ≡ true
not_below a b l = let e : nat_lt b a ≡ false = grind (arith, nat_tests) in rw e refl

at_most : (a b : ℕ) → not (nat_lt b a) ≡ true → a ≤ b
at_most a b h = grind (arith, nat_tests)

-- where so many may be open
pub to_depth : (most : ℕ) {ls : List Lexeme} {ts : List Token} → Pairs ls ts → (n : ℕ) → n ≤ most
    → shallow_from most n ls ≡ true → depth_from n ts ≤ most
to_depth most none n l h = l
to_depth most (also x t {ls = ls} {ts = ts} e k b p) n l h =
    let o : depths.open_behind n x ≡ open_behind n t = same n x ∙ ap (open_behind n) b in
    let a : depths.open_behind n x ≤ most =
    at_most (depths.open_behind n x) most
    (both-left (not (nat_lt most (depths.open_behind n x))) (shallow_from most (depths.open_behind n x) ls) h) in
    let c : shallow_from most (depths.open_behind n x) ls ≡ true =
    both-right (not (nat_lt most (depths.open_behind n x))) (shallow_from most (depths.open_behind n x) ls) h in
    let d : depth_from (open_behind n t) ts ≤ most =
    subst (λ z. depth_from z ts ≤ most) o (to_depth most p (depths.open_behind n x) a c) in
    omega (arith, l, d)

deep_first : (n : ℕ) (ts : List Token) → n ≤ depth_from n ts
deep_first n [] = omega arith
deep_first n (t ∷ ts) = omega arith

pub from_depth : (most : ℕ) {ls : List Lexeme} {ts : List Token} → Pairs ls ts → (n : ℕ) → depth_from n ts ≤ most
    → shallow_from most n ls ≡ true
from_depth most none n h = refl
from_depth most (also x t {ls = ls} {ts = ts} e k b p) n h =
    let o : depths.open_behind n x ≡ open_behind n t = same n x ∙ ap (open_behind n) b in
    let d : depth_from (open_behind n t) ts ≤ most = omega (arith, h) in
    let c : shallow_from most (depths.open_behind n x) ls ≡ true =
    subst (λ z. shallow_from most z ls ≡ true) (sym o) (from_depth most p (open_behind n t) d) in
    let a : open_behind n t ≤ most = omega (arith, d, deep_first (open_behind n t) ts) in
    both (not (nat_lt most (depths.open_behind n x))) (shallow_from most (depths.open_behind n x) ls)
    (not_below (depths.open_behind n x) most (subst (λ z. z ≤ most) (sym o) a)) c
