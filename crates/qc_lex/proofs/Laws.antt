-- What the code finds is what bytes begin with.
use Rattle.std.proofs.Common.{◌≡◌, ℕ, suc, ◌+◌, Bool, true, false, ◌==◌, ◌&&◌, ◌||◌, if◌then◌else◌, List, [], ◌∷◌, ◌++◌}
use Rattle.std.proofs.Common.{length, take, Option, Some, None, inl, inr, refl, sym, ap, ◌∙◌, subst, append_assoc}
use Rattle.std.proofs.Common.{arith}
use Rattle.std.specs.Option.{option_and_then}
use Rattle.std.specs.List.{prefix_len}
use Rattle.std.specs.Char.{is_ascii_digit}
use Rattle.std.specs.Str.{bytes_eq, is_utf8}
use Rattle.qc_lex.specs.declared.token.Table.{Table}
use Rattle.qc_lex.specs.declared.token.Table.TheVariants.{Oql, Sql, Rule}
use Rattle.qc_lex.specs.declared.token.Kind.{Kind}
use Rattle.qc_lex.specs.declared.token.Kind.TheVariants.{Word, Quoted, Whole, Text, Mark}
use Rattle.qc_lex.specs.declared.token.Lexeme.{Lexeme}
use Rattle.qc_lex.specs.declared.front.Next.{Next}
use Rattle.qc_lex.specs.declared.front.Next.TheVariants as next
use Rattle.qc_lex.specs.Class.{is_blank, begins_word, in_word, in_line, opens_comment, quotes_text, quotes_name}
use Rattle.qc_lex.specs.Class.{is_mark, is_double}
use Rattle.qc_lex.specs.Pieces.{doubled, quoted}
use Rattle.qc_lex.specs.Tokens.{NoQuote, lexeme_of, Front, word, whole, text, name, double, single, Gap, blank, comment}
use Rattle.qc_lex.specs.Tokens.{TokenFront, NoFront}
use Rattle.qc_lex.specs.inner.Steps.{kind_of, fits, text_end, goes_on, fitting, front, token_or_bad, begins}
use Rattle.qc_lex.proofs.Quoting.{end_of, taken, spelled, content_quoted}
use Rattle.qc_lex.proofs.Begun.{both-left, either, at_same, front_found}
use borrow.Author.Tests.{ltb-true, leb-true}

-- ---- a found front is one

-- the kind by its tests
abbrev by_kind : Bool → Bool → Bool → Bool → Kind
by_kind in_words digit quote name_quote =
    if in_words then Word else if digit then Whole else if quote then Text else if name_quote then Quoted else Mark

-- what the kind says of the byte
abbrev Tested : Kind → Bool → Bool → Bool → Bool → Type 0
Tested Word in_words digit quote name_quote = in_words ≡ true
Tested Whole in_words digit quote name_quote = digit ≡ true
Tested Text in_words digit quote name_quote = quote ≡ true
Tested Quoted in_words digit quote name_quote = name_quote ≡ true
Tested Mark in_words digit quote name_quote = Unit {0}

tested : (in_words digit quote name_quote : Bool)
    → Tested (by_kind in_words digit quote name_quote) in_words digit quote name_quote
tested true digit quote name_quote = refl
tested false true quote name_quote = refl
tested false false true name_quote = refl
tested false false false true = refl
tested false false false false = tt

of_kind : (table : Table) (b : ℕ) (kind : Kind) → kind_of table b ≡ kind
    → Tested kind (begins_word b) (is_ascii_digit b) (quotes_text table b) (quotes_name table b)
of_kind table b kind e =
    let P : Kind → Type 0 = λ k. Tested k (begins_word b) (is_ascii_digit b) (quotes_text table b)
    (quotes_name table b) in
    subst P e (tested (begins_word b) (is_ascii_digit b) (quotes_text table b) (quotes_name table b))

-- a piece that is a lexeme
pub record Fitted (kind : Kind) (piece : List ℕ) (x : Lexeme) : Type 0 where
  pub is : lexeme_of kind piece ≡ x
  pub utf8 : is_utf8 piece ≡ true
  pub fit : fits kind piece ≡ true

fitted_by : (kind : Kind) (piece : List ℕ) (x : Lexeme) (v w : Bool) → is_utf8 piece ≡ v → fits kind piece ≡ w
    → (if v && w then Some (lexeme_of kind piece) else None) ≡ Some x → Fitted kind piece x
fitted_by kind piece x true true u f e = record { is = cc; utf8 = u; fit = f }
fitted_by kind piece x true false u f e = absurd cc
fitted_by kind piece x false w u f e = absurd cc

fitted : (kind : Kind) (piece : List ℕ) (x : Lexeme) → fitting kind piece ≡ Some x → Fitted kind piece x
fitted kind piece x e = fitted_by kind piece x (is_utf8 piece) (fits kind piece) refl refl e

-- how far a found token goes on, and that it fits
pub record Reached (table : Table) (kind : Kind) (b : ℕ) (bs : List ℕ) (x : Lexeme) : Type 0 where
  pub size : ℕ
  pub on : goes_on table kind b bs ≡ Some size
  pub piece : Fitted kind (b ∷ take size bs) x

reached_by : (table : Table) (kind : Kind) (b : ℕ) (bs : List ℕ) (x : Lexeme) (o : Option ℕ)
    → goes_on table kind b bs ≡ o → option_and_then (λ n. fitting kind (b ∷ take n bs)) o ≡ Some x
    → Reached table kind b bs x
reached_by table kind b bs x None g e = absurd cc
reached_by table kind b bs x (Some n) g e = record { size = n; on = g; piece = fitted kind (b ∷ take n bs) x e }

-- a front with a piece
abbrev FrontAt : Table → List ℕ → Kind → List ℕ → Type 0
FrontAt table bytes kind piece = Front table bytes (lexeme_of kind piece)

size_is : (m n : ℕ) (o : Option ℕ) → o ≡ Some m → o ≡ Some n → m ≡ n
size_is m n o e f = cc

-- a content that was found, with its quotes
pub record Found (quote : ℕ) (bs : List ℕ) (size : ℕ) : Type 0 where
  pub inside : List ℕ
  pub rest : List ℕ
  pub is : quote ∷ bs ≡ quoted quote inside ++ rest
  pub piece : quote ∷ take size bs ≡ quoted quote inside
  pub ends : NoQuote quote rest

found_quoted : (quote : ℕ) (bs : List ℕ) (size : ℕ) → text_end quote false 0 bs ≡ Some size → Found quote bs size
found_quoted quote bs size e =
    let s = spelled quote size bs e in
    let at_end : text_end quote false 0 bs
    ≡ Some (0 + length (doubled quote s.inside) + 1) = ap (text_end quote false 0) s.is
    ∙ end_of quote s.inside s.rest s.ends 0 in
    let from_start : size ≡ 0 + length (doubled quote s.inside) + 1 = size_is _ _
    (text_end quote false 0 bs) e at_end in
    let size_same : size ≡ length (doubled quote s.inside) + 1 = omega (arith, from_start) in
    record {
      inside = s.inside;
      rest = s.rest;
      is = ap (λ more. quote ∷ more) (s.is ∙ sym (append_assoc (doubled quote s.inside) (quote ∷ []) s.rest));
      piece = ap (λ more. quote ∷ more) (ap (λ (k : ℕ). take k bs) size_same
          ∙ ap (take (length (doubled quote s.inside) + 1)) s.is ∙ taken quote s.inside s.rest);
      ends = s.ends;
    }

-- a mark has two bytes, or else one

no_and : (v : Bool) → v && false ≡ false
no_and true = refl
no_and false = refl

no_pair : (b m n : ℕ) → bytes_eq (b ∷ []) (m ∷ n ∷ []) ≡ false
no_pair b m n = no_and (b == m)

neither : (a b : Bool) → a ≡ false → b ≡ false → a || b ≡ false
neither true b p q = p
neither false b p q = q

no_double : (table : Table) (b : ℕ) → is_double table (b ∷ []) ≡ false
no_double Oql b =
    neither _ _ (neither _ _ (neither _ _ (no_pair b 33 61) (no_pair b 60 61)) (no_pair b 62 61)) (no_pair b 124 124)
no_double Sql b =
    neither _ _ (neither _ _ (neither _ _ (no_pair b 60 62) (no_pair b 60 61)) (no_pair b 62 61)) (no_pair b 124 124)
no_double Rule b = refl

mark_two : (table : Table) (b : ℕ) (bs : List ℕ) → is_double table (b ∷ take 1 bs) ≡ true
    → FrontAt table (b ∷ bs) Mark (b ∷ take 1 bs)
mark_two table b [] h = let no : is_double table (b ∷ []) ≡ false = no_double table b in absurd cc
mark_two table b (c ∷ cs) h = double h

mark_by : (table : Table) (b : ℕ) (bs : List ℕ) (n : ℕ) (v w : Bool) → is_double table (b ∷ take 1 bs) ≡ v
    → is_mark table b ≡ w → (if v then Some 1 else if w then Some 0 else None) ≡ Some n
    → FrontAt table (b ∷ bs) Mark (b ∷ take n bs)
mark_by table b bs n true w p q e =
    let one : 1 ≡ n = cc in subst (λ (k : ℕ). FrontAt table (b ∷ bs) Mark (b ∷ take k bs)) one (mark_two table b bs p)
mark_by table b bs n false true p q e =
    let zero_more : 0 ≡ n = cc in subst (λ (k : ℕ). FrontAt table (b ∷ bs) Mark (b ∷ take k bs)) zero_more (single q p)
mark_by table b bs n false false p q e = absurd cc

-- each kind
front_of_kind : (table : Table) (kind : Kind) (b : ℕ) (bs : List ℕ) (n : ℕ) → kind_of table b ≡ kind
    → goes_on table kind b bs ≡ Some n
    → is_utf8 (b ∷ take n bs) ≡ true → fits kind (b ∷ take n bs) ≡ true → FrontAt table (b ∷ bs) kind (b ∷ take n bs)
front_of_kind table Word b bs n k g u f =
    let size : prefix_len in_word bs ≡ n = cc in
    let P : ℕ → Type 0 = λ i. fits Word (b ∷ take i bs) ≡ true → FrontAt table (b ∷ bs) Word (b ∷ take i bs) in
    subst P size (λ f. word (of_kind table b Word k) (leb-true _ _ f)) f
front_of_kind table Whole b bs n k g u f =
    let size : prefix_len is_ascii_digit bs ≡ n = cc in
    let P : ℕ → Type 0 = λ i. fits Whole (b ∷ take i bs) ≡ true → FrontAt table (b ∷ bs) Whole (b ∷ take i bs) in
    subst P size (λ f. whole (of_kind table b Whole k) (ltb-true _ _ f)) f
front_of_kind table Text b bs n k g u f =
    let s = found_quoted b bs n g in
    let P : List ℕ → Type 0 = λ piece. is_utf8 piece ≡ true → FrontAt table (b ∷ bs) Text piece in
    subst P (sym s.piece) (λ u. text s.inside s.rest (of_kind table b Text k) u s.ends s.is) u
front_of_kind table Quoted b bs n k g u f =
    let s = found_quoted b bs n g in
    let P : List ℕ → Type 0 = λ piece. is_utf8 piece ≡ true → fits Quoted piece ≡ true
    → FrontAt table (b ∷ bs) Quoted piece in
    subst P (sym s.piece) (λ u f. name s.inside s.rest (of_kind table b Quoted k) u
    (rw (content_quoted b s.inside) at f) s.ends s.is) u f
front_of_kind table Mark b bs n k g u f =
    mark_by table b bs n (is_double table (b ∷ take 1 bs)) (is_mark table b) refl refl g

pub front_is : (table : Table) (bytes : List ℕ) (x : Lexeme) → front table bytes ≡ Some x → Front table bytes x
front_is table [] x e = absurd cc
front_is table (b ∷ bs) x e =
    let r = reached_by table (kind_of table b) b bs x (goes_on table (kind_of table b) b bs) refl e in
    subst (Front table (b ∷ bs)) r.piece.is
    (front_of_kind table (kind_of table b) b bs r.size refl r.on r.piece.utf8 r.piece.fit)

-- ---- gaps

-- the first byte of a comment is no blank and ends no line
abbrev pub IsOpening : ℕ → Type 0
IsOpening b = (is_blank b ≡ false) × (in_line b ≡ true)

pub opening : (table : Table) (b : ℕ) (bs : List ℕ) → opens_comment table (b ∷ bs) ≡ true → IsOpening b
opening Oql b bs h = at_same IsOpening b 47 (both-left (b == 47) _ h) (refl, refl)
opening Sql b bs h = at_same IsOpening b 45 (both-left (b == 45) _ h) (refl, refl)
opening Rule b bs h = at_same IsOpening b 59 (both-left (b == 59) _ h) (refl, refl)

pub line_size : (b : ℕ) (bs : List ℕ) → in_line b ≡ true → prefix_len in_line (b ∷ bs) ≡ suc (prefix_len in_line bs)
line_size b bs h = let e : 1 + prefix_len in_line bs ≡ suc (prefix_len in_line bs) = omega arith in rw h e

pub no_comment_left : (table : Table) → opens_comment table [] ≡ false
no_comment_left Oql = refl
no_comment_left Sql = refl
no_comment_left Rule = refl

pub gap_found : {table : Table} {bytes : List ℕ} {n : ℕ} → Gap table bytes n → begins table bytes ≡ next.Gap n
gap_found (blank h) = rw h refl
gap_found {table = table} {bytes = []} (comment h) =
    let no : opens_comment table [] ≡ false = no_comment_left table in absurd cc
gap_found {table = table} {bytes = b ∷ bs} (comment h) =
    let o = opening table b bs h in
    rw (o.0, h) (ap (λ (k : ℕ). next.Gap k) (sym (line_size b bs o.1)))

-- what is begun, by the tests for a blank and for a comment
abbrev by_tests : Bool → Bool → ℕ → Option Lexeme → Next
by_tests is_gap is_comment n found =
    if is_gap then next.Gap 1 else if is_comment then next.Gap (suc n) else token_or_bad found

no_gap_there : (o : Option Lexeme) (n : ℕ) → token_or_bad o ≡ next.Gap n → ⊥
no_gap_there None n e = cc
no_gap_there (Some x) n e = cc

gap_by : (table : Table) (b : ℕ) (bs : List ℕ) (n : ℕ) (o : Option Lexeme) (v w : Bool) → is_blank b ≡ v
    → opens_comment table (b ∷ bs) ≡ w → by_tests v w (prefix_len in_line bs) o ≡ next.Gap n → Gap table (b ∷ bs) n
gap_by table b bs n o true w p q e = let one : 1 ≡ n = cc in subst (λ (k : ℕ). Gap table (b ∷ bs) k) one (blank p)
gap_by table b bs n o false true p q e =
    let size : suc (prefix_len in_line bs) ≡ n = cc in
    subst (λ (k : ℕ). Gap table (b ∷ bs) k) (line_size b bs (opening table b bs q).1 ∙ size) (comment q)
gap_by table b bs n o false false p q e = absurd (no_gap_there o n e)

pub gap_is : (table : Table) (bytes : List ℕ) (n : ℕ) → begins table bytes ≡ next.Gap n → Gap table bytes n
gap_is table [] n e = absurd cc
gap_is table (b ∷ bs) n e =
    gap_by table b bs n (front table (b ∷ bs)) (is_blank b) (opens_comment table (b ∷ bs)) refl refl e

-- ---- tokens

-- a blank begins no token
abbrev NoneAt : List ℕ → ℕ → Type 0
NoneAt bs b = (table : Table) → front table (b ∷ bs) ≡ None

none_at_space : (bs : List ℕ) → NoneAt bs 32
none_at_space bs Oql = refl
none_at_space bs Sql = refl
none_at_space bs Rule = refl

none_at_tab : (bs : List ℕ) → NoneAt bs 9
none_at_tab bs Oql = refl
none_at_tab bs Sql = refl
none_at_tab bs Rule = refl

none_at_return : (bs : List ℕ) → NoneAt bs 13
none_at_return bs Oql = refl
none_at_return bs Sql = refl
none_at_return bs Rule = refl

none_at_feed : (bs : List ℕ) → NoneAt bs 10
none_at_feed bs Oql = refl
none_at_feed bs Sql = refl
none_at_feed bs Rule = refl

none_at_blank : (b : ℕ) (bs : List ℕ) → is_blank b ≡ true → NoneAt bs b
none_at_blank b bs h = elim (either _ _ h) [
  | inl i ↦ elim (either _ _ i) [
    | inl j ↦ elim (either _ _ j) [
      | inl k ↦ at_same (NoneAt bs) b 32 k (none_at_space bs)
      | inr k ↦ at_same (NoneAt bs) b 9 k (none_at_tab bs)
    ]
    | inr j ↦ at_same (NoneAt bs) b 13 j (none_at_return bs)
  ]
  | inr i ↦ at_same (NoneAt bs) b 10 i (none_at_feed bs)
]

token_there : (table : Table) (b : ℕ) (bs : List ℕ) (x : Lexeme) (v : Bool) → is_blank b ≡ v
    → opens_comment table (b ∷ bs) ≡ false → front table (b ∷ bs) ≡ Some x
    → by_tests v (opens_comment table (b ∷ bs)) (prefix_len in_line bs) (front table (b ∷ bs)) ≡ next.Token x
token_there table b bs x true p q f = let no : front table (b ∷ bs) ≡ None = none_at_blank b bs p table in absurd cc
token_there table b bs x false p q f = rw (q, f) refl

pub token_found : {table : Table} {bytes : List ℕ} {x : Lexeme} → TokenFront table bytes x
    → begins table bytes ≡ next.Token x
token_found {table = table} {bytes = []} {x = x} t = let f : front table [] ≡ Some x = front_found t.front in absurd cc
token_found {table = table} {bytes = b ∷ bs} {x = x} t =
    token_there table b bs x (is_blank b) refl t.no_comment (front_found t.front)

token_is_front : (o : Option Lexeme) (x : Lexeme) → token_or_bad o ≡ next.Token x → o ≡ Some x
token_is_front None x e = absurd cc
token_is_front (Some y) x e = let same : y ≡ x = cc in ap (λ (z : Lexeme). Some z) same

token_by : (table : Table) (b : ℕ) (bs : List ℕ) (x : Lexeme) (v w : Bool) → opens_comment table (b ∷ bs) ≡ w
    → by_tests v w (prefix_len in_line bs) (front table (b ∷ bs)) ≡ next.Token x → TokenFront table (b ∷ bs) x
token_by table b bs x true w q e = absurd cc
token_by table b bs x false true q e = absurd cc
token_by table b bs x false false q e =
    record { no_comment = q; front = front_is table (b ∷ bs) x (token_is_front _ x e) }

pub token_is : (table : Table) (bytes : List ℕ) (x : Lexeme) → begins table bytes ≡ next.Token x
    → TokenFront table bytes x
token_is table [] x e = absurd cc
token_is table (b ∷ bs) x e = token_by table b bs x (is_blank b) (opens_comment table (b ∷ bs)) refl e

-- ---- the end, and bad bytes

pub end_found : (table : Table) {bytes : List ℕ} → bytes ≡ [] → begins table bytes ≡ next.End
end_found table e = rw e refl

no_end_there : (table : Table) (b : ℕ) (bs : List ℕ) (v w : Bool) (o : Option Lexeme)
    → by_tests v w (prefix_len in_line bs) o ≡ next.End → ⊥
no_end_there table b bs true w o e = cc
no_end_there table b bs false true o e = cc
no_end_there table b bs false false None e = cc
no_end_there table b bs false false (Some x) e = cc

pub end_is : (table : Table) (bytes : List ℕ) → begins table bytes ≡ next.End → bytes ≡ []
end_is table [] e = refl
end_is table (b ∷ bs) e =
    absurd (no_end_there table b bs (is_blank b) (opens_comment table (b ∷ bs)) (front table (b ∷ bs)) e)

no_token_there : (v w : Bool) (n : ℕ) (o : Option Lexeme) (x : Lexeme) → by_tests v w n o ≡ next.Bad → o ≡ Some x → ⊥
no_token_there true w n o x e f = cc
no_token_there false true n o x e f = cc
no_token_there false false n None x e f = cc
no_token_there false false n (Some y) x e f = cc

pub bad_is : (table : Table) (bytes : List ℕ) → begins table bytes ≡ next.Bad → NoFront table bytes
bad_is table [] e = absurd cc
bad_is table (b ∷ bs) e = record {
  more = omega arith;
  no_gap = λ n g. let f = gap_found g in cc;
  no_token =
      λ x t. no_token_there (is_blank b) (opens_comment table (b ∷ bs)) (prefix_len in_line bs)
      (front table (b ∷ bs)) x e (front_found t);
}

bad_by : (table : Table) (bytes : List ℕ) (found : Next) → begins table bytes ≡ found → NoFront table bytes
    → found ≡ next.Bad
bad_by table bytes next.End e n =
    absurd (let left : length bytes ≡ 0 = ap length (end_is table bytes e) in let more = n.more in omega arith)
bad_by table bytes (next.Gap k) e n = absurd (n.no_gap k (gap_is table bytes k e))
bad_by table bytes (next.Token x) e n = absurd (n.no_token x (token_is table bytes x e).front)
bad_by table bytes next.Bad e n = refl

pub bad_found : {table : Table} {bytes : List ℕ} → NoFront table bytes → begins table bytes ≡ next.Bad
bad_found {table = table} {bytes = bytes} n = bad_by table bytes (begins table bytes) refl n
