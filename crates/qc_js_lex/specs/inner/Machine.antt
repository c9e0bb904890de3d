-- The scanner as a machine: what each byte does to what is begun.
use Rattle.std.specs.Prelude.{ℕ, ◌+◌, ◌-◌, ◌*◌, ℤ, pos, ◌-ℤ◌, ◌+ℤ◌, ◌*ℤ◌, Option, Some, None, List, [], ◌∷◌, ◌++◌}
use Rattle.std.specs.Prelude.{Bool, true, false, if◌then◌else◌, ◌==◌, ◌||◌, ◌&&◌, not, nat_lt, nat_le}
use Rattle.std.specs.Prelude.{◌≡◌, Result, Ok, Err}
use Rattle.std.specs.Char.{is_ascii_digit, is_ascii_alphabetic, is_ascii_alphanumeric, is_digit, digit_value}
use Rattle.std.specs.Char.{encode_utf8}
use Rattle.std.specs.Str.{is_utf8}
use Rattle.qc_js_lex.specs.declared.lexeme.Lexeme.{Lexeme}
use Rattle.qc_js_lex.specs.declared.lexeme.Lexeme.TheVariants as lexeme
use Rattle.qc_js.specs.Held.{is_bits64}
use Rattle.qc_js.specs.Spelling.{is_blank, is_mark, is_high, is_low, letter}
use Rattle.qc_js_lex.specs.Lexemes.{word_lexeme, mark_place}
use Rattle.qc_js_lex.specs.declared.scanning.Scan.{Scan}
use Rattle.qc_js_lex.specs.declared.scanning.Scan.TheVariants as scans
use Rattle.qc_js_lex.specs.declared.step.Mode.{Mode}
use Rattle.qc_js_lex.specs.declared.step.Mode.TheVariants as mode
use Rattle.qc_js_lex.specs.declared.step.Act.{Act}
use Rattle.qc_js_lex.specs.declared.step.Act.TheVariants as act

abbrev pub is_scalar : ℕ → Bool
is_scalar c = nat_lt c 0xd800 || (nat_le 0xe000 c && nat_lt c 0x110000)

-- a byte where nothing is begun
abbrev pub start : ℕ → Act
start b = if is_blank b then act.Skip
    else if is_ascii_alphabetic b then act.BeginKeep mode.Word
    else if b == 45 then act.Begin mode.Minus
    else if b == 48 then act.Begin mode.Zero
    else if is_ascii_digit b then act.Begin (mode.Digits false (pos (b - 48)))
    else if b == 34 then act.Begin mode.Text
    else if b == 47 then act.Begin mode.Slash
    else if is_mark b then act.Mark
    else act.BadHere

abbrev pub as_int : Option ℤ → (ℤ → Act) → Act
as_int None k = act.Bad
as_int (Some z) k = k z

-- a digit more, where the value stays within 64 bits
abbrev pub shifted : Bool → ℤ → ℕ → ℤ
shifted true z d = z *ℤ pos 10 -ℤ pos d
shifted false z d = z *ℤ pos 10 +ℤ pos d

abbrev pub fit : ℤ → Option ℤ
fit z = if is_bits64 z then Some z else None

abbrev pub grown : Bool → ℤ → ℕ → Option ℤ
grown negative z d = fit (shifted negative z d)

-- a byte after digits that don't begin with a zero
abbrev pub in_digits : Bool → ℤ → ℕ → Act
in_digits negative z b =
    if is_ascii_digit b then as_int (grown negative z (b - 48)) (λ more. act.Stay (mode.Digits negative more))
    else if b == 110 then act.Number z else act.Bad

abbrev pub in_string : ℕ → Act
in_string b =
    if b == 34 then act.EndText else if b == 92 then act.Stay mode.Escape else if nat_lt b 32 then act.Bad else act.Keep
    mode.Text

-- a character of a string, where there is one
abbrev pub put_letter : Option ℕ → Act
put_letter (Some c) = act.Put c
put_letter None = act.Bad

-- after a backslash
abbrev pub in_escape : ℕ → Act
in_escape b = if b == 117 then act.Stay (mode.Hex0 0) else put_letter (letter b)

abbrev pub unit_of : ℕ → ℕ → ℕ → ℕ → ℕ
unit_of a b c d = a * 4096 + b * 256 + c * 16 + d

abbrev pub put : ℕ → Act
put c = if is_scalar c then act.Put c else act.Bad

-- a whole unit
abbrev pub lone : ℕ → Act
lone u = if is_high u then act.Stay (mode.High u) else put u

-- a whole unit after a high surrogate
abbrev pub paired : ℕ → ℕ → Act
paired h u = if is_high h && is_low u then put (0x10000 + (h - 0xd800) * 1024 + (u - 0xdc00)) else act.Bad

abbrev pub in_comment : ℕ → Act
in_comment b =
    if (b == 10) || (b == 13) then act.Skip else if b == 0xe2 then act.Begin mode.CommentE2 else act.Stay mode.Comment

abbrev pub next : Mode → ℕ → Act
next mode.Between b = start b
next mode.Word b = act.Keep mode.Word
next mode.Minus b =
    if b == 48 then act.Stay mode.Zero else if is_ascii_digit b then act.Stay
    (mode.Digits true (pos 0 -ℤ pos (b - 48))) else act.Bad
next mode.Zero b = if b == 110 then act.Number (pos 0) else act.Bad
next (mode.Digits negative n) b = in_digits negative n b
next mode.Text b = in_string b
next mode.Escape b = in_escape b
next (mode.Hex0 h) b = if is_digit b 16 then act.Stay (mode.Hex1 h (digit_value b)) else act.Bad
next (mode.Hex1 h d) b = if is_digit b 16 then act.Stay (mode.Hex2 h d (digit_value b)) else act.Bad
next (mode.Hex2 h d e) b = if is_digit b 16 then act.Stay (mode.Hex3 h d e (digit_value b)) else act.Bad
next (mode.Hex3 h d e f) b =
    if is_digit b 16 then (if h == 0 then lone (unit_of d e f (digit_value b)) else paired h
    (unit_of d e f (digit_value b))) else act.Bad
next (mode.High h) b = if b == 92 then act.Stay (mode.HighEscape h) else act.Bad
next (mode.HighEscape h) b = if b == 117 then act.Stay (mode.Hex0 h) else act.Bad
next mode.Slash b = if b == 47 then act.Stay mode.Comment else act.Bad
next mode.Comment b = in_comment b
next mode.CommentE2 b = if b == 0x80 then act.Stay mode.CommentE280 else in_comment b
next mode.CommentE280 b = if (b == 0xa8) || (b == 0xa9) then act.Bad else in_comment b

-- a word goes on as long as it can
abbrev pub ends_word : Mode → ℕ → Bool
ends_word mode.Word b = not (is_ascii_alphanumeric b)
ends_word m b = false

-- the tokens, or the first byte at which none begins
abbrev pub Scanned : Type 0
Scanned = Result (List Lexeme) ℕ

abbrev pub in_front : List Lexeme → Scanned → Scanned
in_front first (Ok later) = Ok (first ++ later)
in_front first (Err at) = Err at

-- what follows an act on the byte `b` at `at`, where a token with the content `text` was begun at `from`
abbrev pub perform : Act → List ℕ → ℕ → ℕ → ℕ → (Mode → List ℕ → ℕ → Scanned) → Scanned
perform (act.Stay m) text from at b k = k m text from
perform (act.Keep m) text from at b k = k m (text ++ b ∷ []) from
perform (act.Put c) text from at b k = k mode.Text (text ++ encode_utf8 c) from
perform (act.Begin m) text from at b k = k m [] at
perform (act.BeginKeep m) text from at b k = k m (b ∷ []) at
perform (act.Number n) text from at b k = in_front (lexeme.Int n ∷ []) (k mode.Between [] at)
perform act.EndText text from at b k =
    if is_utf8 text then in_front (lexeme.Text text ∷ []) (k mode.Between [] at) else Err from
perform act.Mark text from at b k = in_front (lexeme.Fixed (mark_place b) ∷ []) (k mode.Between [] at)
perform act.Skip text from at b k = k mode.Between [] at
perform act.Bad text from at b k = Err from
perform act.BadHere text from at b k = Err at

-- a word, and what follows
abbrev pub ended : List ℕ → ℕ → Scanned → Scanned
ended text from later = if is_utf8 text then in_front (word_lexeme text ∷ []) later else Err from

-- at the end
abbrev pub finish : Mode → List ℕ → ℕ → Scanned
finish mode.Between text from = Ok []
finish mode.Word text from = ended text from (Ok [])
finish mode.Comment text from = Ok []
finish mode.CommentE2 text from = Ok []
finish mode.CommentE280 text from = Ok []
finish m text from = Err from

abbrev pub turn : Mode → List ℕ → ℕ → ℕ → ℕ → (Mode → List ℕ → ℕ → Scanned) → Scanned
turn m text from at b k =
    if ends_word m b then ended text from (perform (start b) [] at at b k) else perform (next m b) text from at b k

abbrev pub scan_on : Mode → List ℕ → ℕ → ℕ → List ℕ → Scanned
scan_on m text from at [] = finish m text from
scan_on m text from at (b ∷ bs) = turn m text from at b (λ m' text' from'. scan_on m' text' from' (at + 1) bs)

abbrev pub scan : List ℕ → Scanned
scan bs = scan_on mode.Between [] 0 0 bs

-- what it comes to, as code has it
abbrev pub Has : Scanned → Scan → Type 0
Has o (scans.Lexemes ts) = o ≡ Ok ts.items
Has o (scans.BadScan at) = o ≡ Err at
