-- Each function has a word of its own.
use Rattle.std.proofs.Common.{◌≡◌, ◌≢◌, ℕ, ◌+◌, ◌<◌, Bool, true, false, List, [], ◌∷◌, Option, Some, None, refl, sym}
use Rattle.std.proofs.Common.{ap}
use Rattle.std.proofs.Common.{subst, ◌∙◌, length, drop, get_or, add-one, drop-cons}
use Rattle.std.specs.Prelude.{IfSome, unwrap_or, if◌then◌else◌}
use Rattle.std.specs.Str.{bytes_eq}
use Rattle.std.proofs.lemmas.Slice.Eq.{bytes_eq-Decides}
use Rattle.qc_rt.specs.Table.{word_of, spelled_by, all_functions, function_of}
use Rattle.qc_rt.specs.declared.function.Rt.{Rt}
use Rattle.qc_rt.specs.declared.function.Rt.TheVariants as rt

pub own_word : (f : Rt) → function_of (word_of f) ≡ Some f
own_word rt.Not = refl
own_word rt.Neg = refl
own_word rt.Abs = refl
own_word rt.DivBy = refl
own_word rt.ModBy = refl
own_word rt.Count = refl
own_word rt.Sum = refl
own_word rt.Min = refl
own_word rt.Max = refl
own_word rt.Avg = refl
own_word rt.Element = refl
own_word rt.Flatten = refl
own_word rt.Distinct = refl
own_word rt.Single = refl
own_word rt.Rec = refl
own_word rt.Dot = refl
own_word rt.Project = refl
own_word rt.Left = refl
own_word rt.Right = refl
own_word rt.Brand = refl
own_word rt.Unbrand = refl
own_word rt.Cast = refl
own_word rt.Order = refl
own_word rt.Group = refl
own_word rt.Like = refl
own_word rt.Eq = refl
own_word rt.Lt = refl
own_word rt.Le = refl
own_word rt.And = refl
own_word rt.Or = refl
own_word rt.Add = refl
own_word rt.Sub = refl
own_word rt.Mul = refl
own_word rt.Least = refl
own_word rt.Greatest = refl
own_word rt.Union = refl
own_word rt.Except = refl
own_word rt.Intersect = refl
own_word rt.Member = refl
own_word rt.Cat = refl
own_word rt.Merge = refl
own_word rt.Glue = refl
own_word rt.Nothing = refl
own_word rt.IsLeft = refl
own_word rt.Payload = refl

some_same : (f g : Rt) → Some f ≡ Some g → f ≡ g
some_same f g e = ap (λ o. unwrap_or o f) e

pub one_word : (f g : Rt) → word_of g ≡ word_of f → g ≡ f
one_word f g e = some_same g f (sym (own_word g) ∙ ap function_of e ∙ own_word f)

spelled_at : (b : Bool) (word : List ℕ) (f : Rt) (o : Option Rt) → bytes_eq (word_of f) word ≡ b
    → IfSome o (λ g. word_of g ≡ word) → IfSome (if b then Some f else o) (λ g. word_of g ≡ word)
spelled_at true word f o e h = (bytes_eq-Decides (word_of f) word).0 e
spelled_at false word f o e h = h

spelled : (word : List ℕ) (fs : List Rt) → IfSome (spelled_by word fs) (λ g. word_of g ≡ word)
spelled word [] = tt
spelled word (f ∷ fs) = spelled_at (bytes_eq (word_of f) word) word f (spelled_by word fs) refl (spelled word fs)

pub some_is : (o : Option Rt) (word : List ℕ) → o ≡ function_of word → IfSome o (λ f. word_of f ≡ word)
some_is o word e = subst (λ p. IfSome p (λ f. word_of f ≡ word)) (sym e) (spelled word all_functions)

none_some : (f : Rt) → None ≡ Some f → ⊥
none_some f e = absurd (cc)

pub none_is : (o : Option Rt) (word : List ℕ) → o ≡ function_of word → o ≡ None → (f : Rt) → word_of f ≢ word
none_is o word e n f is = none_some f (sym n ∙ e ∙ ap function_of (sym is) ∙ own_word f)

-- one function more
pub spelled_more : (word : List ℕ) (fs : List Rt) (i : ℕ) (f : Rt) → i < length fs → f ≡ get_or fs i f
    → bytes_eq (word_of f) word ≡ false → spelled_by word (drop i fs) ≡ spelled_by word (drop (i + 1) fs)
spelled_more word fs i f lt at other = rw (add-one, drop-cons fs i f, ← at, other) refl
