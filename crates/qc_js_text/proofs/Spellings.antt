-- Words and marks, and the lexemes that they are.
use Rattle.std.proofs.Common.{◌≡◌, ℕ, List, [], ◌∷◌, Bool, true, false, ◌==◌, Option, Some, None, if◌then◌else◌, codes}
use Rattle.std.proofs.Common.{decimal, refl, sym, ap, ◌∙◌, arith}
use Rattle.std.proofs.lemmas.Bool.Decides.{nat_tests}
use Rattle.std.proofs.lemmas.Slice.Eq.{bytes_eq-Decides}
use Rattle.std.specs.Str.{bytes_eq}
use Rattle.qc_rt.specs.declared.function.Rt.{Rt}
use Rattle.qc_rt.specs.declared.function.Rt.TheVariants as rt
use Rattle.qc_rt.specs.Table.{word_of, function_of, spelled_by, all_functions}
use Rattle.qc_js.specs.declared.token.Token.{Token}
use Rattle.qc_js.specs.declared.token.Token.TheVariants as token
use Rattle.qc_js.specs.Held.{is_number}
use Rattle.qc_js.specs.Tokens.{variable}
use Rattle.qc_js_lex.specs.declared.lexeme.Lexeme.{Lexeme}
use Rattle.qc_js_lex.specs.declared.lexeme.Lexeme.TheVariants.{Var, Function, Fixed}
use Rattle.qc_js_lex.specs.Lexemes.{fixed_word, later_word, number_in, variable_in, variable_or_other}
use Rattle.qc_js_lex.specs.Lexemes.{function_or, fixed_or, free_word, word_lexeme, mark_place}
use Rattle.qc_js_lex.proofs.Variables.{number_known, number_read}
use Rattle.qc_js_lex.specs.Lexemes.{lexeme_of}
use Rattle.qc_js_text.specs.inner.LexemeTokens.{fixed_token, token_of}

-- ---- from what the grammar names to its lexeme

pub var_known : (x : ℕ) → is_number x ≡ true → word_lexeme (variable x) ≡ Var x
unfolding word_lexeme free_word
var_known x h = ap variable_or_other (number_known x h)

pub function_known : (f : Rt) → word_lexeme (word_of f) ≡ Function f
unfolding word_lexeme free_word
function_known rt.Not = refl
function_known rt.Neg = refl
function_known rt.Abs = refl
function_known rt.DivBy = refl
function_known rt.ModBy = refl
function_known rt.Count = refl
function_known rt.Sum = refl
function_known rt.Min = refl
function_known rt.Max = refl
function_known rt.Avg = refl
function_known rt.Element = refl
function_known rt.Flatten = refl
function_known rt.Distinct = refl
function_known rt.Single = refl
function_known rt.Rec = refl
function_known rt.Dot = refl
function_known rt.Project = refl
function_known rt.Left = refl
function_known rt.Right = refl
function_known rt.Brand = refl
function_known rt.Unbrand = refl
function_known rt.Cast = refl
function_known rt.Order = refl
function_known rt.Group = refl
function_known rt.Like = refl
function_known rt.Eq = refl
function_known rt.Lt = refl
function_known rt.Le = refl
function_known rt.And = refl
function_known rt.Or = refl
function_known rt.Add = refl
function_known rt.Sub = refl
function_known rt.Mul = refl
function_known rt.Least = refl
function_known rt.Greatest = refl
function_known rt.Union = refl
function_known rt.Except = refl
function_known rt.Intersect = refl
function_known rt.Member = refl
function_known rt.Cat = refl
function_known rt.Merge = refl
function_known rt.Glue = refl
function_known rt.Nothing = refl
function_known rt.IsLeft = refl
function_known rt.Payload = refl

-- ---- from a lexeme to its token

-- where the word is in the list of functions
spelled_here : (w : List ℕ) (g : Rt) (fs : List Rt) (t : Bool) → bytes_eq (word_of g) w ≡ t → (f : Rt)
    → (spelled_by w fs ≡ Some f → word_of f ≡ w) → (if t then Some g else spelled_by w fs) ≡ Some f → word_of f ≡ w
spelled_here w g fs true e f k h =
    let same : g ≡ f = cc in ap word_of (sym same) ∙ (bytes_eq-Decides (word_of g) w).0 e
spelled_here w g fs false e f k h = k h

spelled : (w : List ℕ) (fs : List Rt) (f : Rt) → spelled_by w fs ≡ Some f → word_of f ≡ w
spelled w [] f h = let n : None ≡ Some f = h in absurd cc
spelled w (g ∷ fs) f h = spelled_here w g fs (bytes_eq (word_of g) w) refl f (spelled w fs f) h

-- a word of the grammar by its place
abbrev Back : List ℕ → Option ℕ → Type 0
Back w None = Unit {0}
Back w (Some n) = fixed_token n ≡ token.Word w

step : (w v : List ℕ) (n : ℕ) (t : Bool) → bytes_eq w v ≡ t → fixed_token n ≡ token.Word v → (o : Option ℕ) → Back w o
    → Back w (if t then Some n else o)
step w v n true e f o h = f ∙ ap token.Word (sym ((bytes_eq-Decides w v).0 e))
step w v n false e f o h = h

later_back : (w : List ℕ) → Back w (later_word w)
later_back w =
    step w (codes "push") 7 _ refl refl _ (step w (codes "for") 8 _ refl refl _
    (step w (codes "of") 9 _ refl refl _ (step w (codes "if") 10 _ refl refl _
    (step w (codes "else") 11 _ refl refl _ (step w (codes "true") 12 _ refl refl _
    (step w (codes "false") 13 _ refl refl _ (step w (codes "null") 14 _ refl refl None tt)))))))

fixed_back : (w : List ℕ) → Back w (fixed_word w)
fixed_back w =
    step w (codes "function") 0 _ refl refl _ (step w (codes "query") 1 _ refl refl _
    (step w (codes "w") 2 _ refl refl _ (step w (codes "rt") 3 _ refl refl _
    (step w (codes "return") 4 _ refl refl _ (step w (codes "let") 5 _ refl refl _
    (step w (codes "const") 6 _ refl refl (later_word w) (later_back w)))))))

-- a lexeme that is not another word
abbrev pub is_known : Lexeme → Bool
is_known (Fixed n) = if n == 25 then false else true
is_known _ = true

variable_at : (b : ℕ) (ds : List ℕ) (t : Bool) → (b == 118) ≡ t → (x : ℕ) → (if t then number_in ds else None) ≡ Some x
    → variable x ≡ b ∷ ds
variable_at b ds true e x h =
    let is : 118 ≡ b = grind (arith, nat_tests) in
    let d : decimal x ≡ ds = (number_read ds x h).0 in cc
variable_at b ds false e x h = let n : None ≡ Some x = h in absurd cc

variable_back : (w : List ℕ) (x : ℕ) → variable_in w ≡ Some x → variable x ≡ w
variable_back [] x h = let n : None ≡ Some x = h in absurd cc
variable_back (b ∷ ds) x h = variable_at b ds (b == 118) refl x h

free_variable : (w : List ℕ) (o : Option ℕ) → variable_in w ≡ o → is_known (variable_or_other o) ≡ true
    → token_of (variable_or_other o) ≡ token.Word w
free_variable w (Some x) e k = ap token.Word (variable_back w x e)
free_variable w None e k = let f : false ≡ true = k in absurd cc

free_back : (w : List ℕ) (o : Option Rt) → function_of w ≡ o
    → is_known (function_or (variable_or_other (variable_in w)) o) ≡ true
    → token_of (function_or (variable_or_other (variable_in w)) o) ≡ token.Word w
free_back w (Some f) e k = ap token.Word (spelled w all_functions f e)
free_back w None e k = free_variable w (variable_in w) refl k

word_by : (w : List ℕ) (o : Option ℕ) → Back w o → is_known (fixed_or (free_word w) o) ≡ true
    → token_of (fixed_or (free_word w) o) ≡ token.Word w
unfolding free_word
word_by w (Some n) b k = b
word_by w None b k = free_back w (function_of w) refl k

pub word_back : (w : List ℕ) → is_known (word_lexeme w) ≡ true → token_of (word_lexeme w) ≡ token.Word w
unfolding word_lexeme
word_back w k = word_by w (fixed_word w) (fixed_back w) k

abbrev MarkBack : ℕ → ℕ → Type 0
MarkBack b n = is_known (Fixed n) ≡ true → fixed_token n ≡ token.Mark b

mark_step : (b c n : ℕ) (t : Bool) → (b == c) ≡ t → fixed_token n ≡ token.Mark c → (m : ℕ) → MarkBack b m
    → MarkBack b (if t then n else m)
mark_step b c n true e f m h = λ k. let is : c ≡ b = grind (arith, nat_tests) in f ∙ ap token.Mark is
mark_step b c n false e f m h = h

no_mark : (b : ℕ) → MarkBack b 25
no_mark b = λ k. (let f : false ≡ true = k in absurd cc)

pub mark_back : (b : ℕ) → MarkBack b (mark_place b)
mark_back b =
    mark_step b 40 15 _ refl refl _ (mark_step b 41 16 _ refl refl _ (mark_step b 123 17 _ refl refl _
    (mark_step b 125 18 _ refl refl _ (mark_step b 91 19 _ refl refl _ (mark_step b 93 20 _ refl refl _
    (mark_step b 44 21 _ refl refl _ (mark_step b 59 22 _ refl refl _ (mark_step b 46 23 _ refl refl _
    (mark_step b 61 24 _ refl refl 25 (no_mark b))))))))))

-- the token of a lexeme that the grammar names
pub token_back : (t : Token) → is_known (lexeme_of t) ≡ true → token_of (lexeme_of t) ≡ t
token_back (token.Word w) k = word_back w k
token_back (token.Int n) k = refl
token_back (token.Text t) k = refl
token_back (token.Mark b) k = mark_back b k
