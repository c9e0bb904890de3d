-- What is known of gaps and tokens.
use Rattle.std.proofs.Common.{◌≡◌, ℕ, zero, suc, ◌<◌, ◌≤◌, ◌^◌, Bool, true, false, List, [], ◌∷◌, ◌++◌, length, take}
use Rattle.std.proofs.Common.{Some, ◌⊎◌, inl, inr, refl, sym, ap, ◌∙◌, subst, arith, slice_get, length-take}
use Rattle.std.proofs.Common.{length-append}
use Rattle.std.specs.Option.{option_map}
use Rattle.std.specs.List.{prefix_len}
use Rattle.std.specs.Char.{is_ascii_digit}
use Rattle.std.specs.Str.{IsUtf8}
use Rattle.std.proofs.lemmas.Bool.Decides.{nat_tests}
use Rattle.std.proofs.Math.Seq.{take-append_seam}
use Rattle.std.proofs.lemmas.List.Folds.{length-prefix_len}
use Rattle.std.proofs.lemmas.List.Sums.{prefix_len-le-length}
use Rattle.qc_lex.specs.declared.token.Table.{Table}
use Rattle.qc_lex.specs.declared.token.Table.TheVariants.{Oql, Sql, Rule}
use Rattle.qc_lex.specs.declared.token.Kind.{Kind}
use Rattle.qc_lex.specs.declared.token.Kind.TheVariants.{Quoted, Whole, Text}
use Rattle.qc_lex.specs.declared.token.Lexeme.{Lexeme}
use Rattle.qc_lex.specs.declared.token.Placed.{Placed}
use Rattle.qc_lex.specs.Class.{in_word, in_line, opens_comment, quotes_text, quotes_name}
use Rattle.qc_lex.specs.Pieces.{value, quoted, content}
use Rattle.qc_lex.specs.Tokens.{run, Front, word, whole, text, name, double, single, Gap, blank, comment}
use Rattle.qc_lex.specs.Words.{kind_at, IsToken, AllTokens}
use Rattle.qc_lex.proofs.Contents.{content_utf8}
use Rattle.qc_lex.proofs.Laws.{opening, no_comment_left, line_size}

-- ---- sizes

-- a gap has a byte, and ends within the bytes
pub gap_size : {table : Table} {bytes : List ℕ} {n : ℕ} → Gap table bytes n → (0 < n) × (n ≤ length bytes)
gap_size (blank h) = (omega arith, omega arith)
gap_size {table = table} {bytes = []} (comment h) =
    let no : opens_comment table [] ≡ false = no_comment_left table in absurd cc
gap_size {table = table} {bytes = b ∷ bs} (comment h) =
    let size = line_size b bs (opening table b bs h).1 in
    (omega (arith, size), prefix_len-le-length in_line (b ∷ bs))

between : (quote : ℕ) (inside rest bytes : List ℕ) → bytes ≡ quoted quote inside ++ rest
    → (0 < length (quoted quote inside)) × (length (quoted quote inside) ≤ length bytes)
between quote inside rest bytes e = (omega arith, omega (arith, ap length e, length-append (quoted quote inside) rest))

-- so does a token
pub token_size : {table : Table} {bytes : List ℕ} {x : Lexeme} → Front table bytes x
    → (0 < length x.piece) × (length x.piece ≤ length bytes)
token_size (word {bs = bs} h l) = (omega arith, omega (arith, length-take (prefix_len in_word bs) bs))
token_size (whole {bs = bs} h l) = (omega arith, omega (arith, length-take (prefix_len is_ascii_digit bs) bs))
token_size (text i r q u n e) = between _ _ _ _ e
token_size (name i r q u j n e) = between _ _ _ _ e
token_size (double h) = (omega arith, omega arith)
token_size (single h n) = (omega arith, omega arith)

-- ---- pieces

run_front : (is_kind : ℕ → Bool) (b : ℕ) (bs : List ℕ)
    → take (length (b ∷ run is_kind bs)) (b ∷ bs) ≡ b ∷ run is_kind bs
run_front is_kind b bs = ap (λ (n : ℕ). b ∷ take n bs) (length-prefix_len is_kind bs)

quoted_front : (quote : ℕ) (inside rest bytes : List ℕ) → bytes ≡ quoted quote inside ++ rest
    → take (length (quoted quote inside)) bytes ≡ quoted quote inside
quoted_front quote inside rest bytes e =
    ap (take (length (quoted quote inside))) e ∙ take-append_seam (quoted quote inside) rest

-- the piece of a token is the front of the bytes
pub token_piece : {table : Table} {bytes : List ℕ} {x : Lexeme} → Front table bytes x
    → take (length x.piece) bytes ≡ x.piece
token_piece (word {b = b} {bs = bs} h l) = run_front in_word b bs
token_piece (whole {b = b} {bs = bs} h l) = run_front is_ascii_digit b bs
token_piece (text i r q u n e) = quoted_front _ i r _ e
token_piece (name i r q u j n e) = quoted_front _ i r _ e
token_piece (double h) = refl
token_piece (single h n) = refl

-- ---- values

whole_front : {table : Table} {bytes : List ℕ} {x : Lexeme} → Front table bytes x → x.kind ≡ Whole
    → value x.piece < 2 ^ 63
whole_front (word h l) k = absurd cc
whole_front (whole h l) k = l
whole_front (text i r q u n e) k = absurd cc
whole_front (name i r q u j n e) k = absurd cc
whole_front (double h) k = absurd cc
whole_front (single h n) k = absurd cc

pub whole_fits : (x : Lexeme) → IsToken x → x.kind ≡ Whole → value x.piece < 2 ^ 63
whole_fits x t k = whole_front t.1.1 k

-- ---- contents

text_ascii : (table : Table) (b : ℕ) → quotes_text table b ≡ true → b < 128
text_ascii Oql b h = grind (arith, nat_tests)
text_ascii Sql b h = grind (arith, nat_tests)
text_ascii Rule b h = grind (arith, nat_tests)

name_ascii : (table : Table) (b : ℕ) → quotes_name table b ≡ true → b < 128
name_ascii Oql b h = absurd cc
name_ascii Sql b h = grind (arith, nat_tests)
name_ascii Rule b h = absurd cc

-- a text or a quoted name
abbrev pub HasContent : Kind → Type 0
HasContent kind = (kind ≡ Text) ⊎ (kind ≡ Quoted)

content_front : {table : Table} {bytes : List ℕ} {x : Lexeme} → Front table bytes x → HasContent x.kind → IsUtf8 x.piece
    → IsUtf8 (content x.piece)
content_front (word h l) k u = elim k [ inl e ↦ absurd cc | inr e ↦ absurd cc ]
content_front (whole h l) k u = elim k [ inl e ↦ absurd cc | inr e ↦ absurd cc ]
content_front {table = table} (text {quote = quote} i r q v n e) k u = content_utf8 quote _ (text_ascii table quote q) u
content_front {table = table} (name {quote = quote} i r q v j n e) k u =
    content_utf8 quote _ (name_ascii table quote q) u
content_front (double h) k u = elim k [ inl e ↦ absurd cc | inr e ↦ absurd cc ]
content_front (single h n) k u = elim k [ inl e ↦ absurd cc | inr e ↦ absurd cc ]

pub content_is_utf8 : (x : Lexeme) → IsToken x → HasContent x.kind → IsUtf8 x.piece → IsUtf8 (content x.piece)
content_is_utf8 x t k u = content_front t.1.1 k u

-- ---- the words of a list

-- each word of a list of tokens is one
pub token_at : (words : List Placed) (at : ℕ) (one : Placed) → AllTokens words → slice_get words at ≡ Some one
    → IsToken one.lexeme
token_at [] at one h e = absurd cc
token_at (w ∷ ws) zero one h e =
    let same : w ≡ one = cc in let P : Placed → Type 0 = λ v. IsToken v.lexeme in subst P same h.0
token_at (w ∷ ws) (suc at) one h e = token_at ws at one h.1 e

-- the kind of the word at a place
pub kind_is : (words : List Placed) (at : ℕ) (one : Placed) {kind : Kind} → slice_get words at ≡ Some one
    → kind_at words at ≡ Some kind → one.lexeme.kind ≡ kind
kind_is words at one found k =
    let e = sym (ap (option_map (λ (w : Placed). w.lexeme.kind)) found) ∙ k in
    cc
