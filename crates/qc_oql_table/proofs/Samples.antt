-- A token of each kind of the table: some list goes on with it, as the place of a fault claims.
use Rattle.std.proofs.Common.{◌≡◌, ℕ, true, eqb, ltb, List, [], ◌∷◌, refl, if◌then◌else◌}
use Rattle.std.specs.Prelude.{codes}
use Rattle.qc_grammar.proofs.Samples.{grammar_sampled}
use Rattle.qc_lex.specs.declared.token.Lexeme.{Lexeme}
use Rattle.qc_lex.specs.declared.token.Kind.TheVariants.{Word, Whole, Text, Mark}
use Rattle.qc_oql_tree.specs.TokenKinds.{ZERO, NONZERO, TEXT}
use Rattle.qc_oql_tree.specs.Lexemes.{kind, words, marks}
use Rattle.qc_oql_table.specs.Table.{grammar}

-- the piece beside a kind in the table, or else another
abbrev pub piece_in : List (List ℕ × ℕ) → List ℕ → ℕ → List ℕ
piece_in [] other k = other
piece_in (entry ∷ table) other k = if eqb entry.1 k then entry.0 else piece_in table other k

-- a word of the kind
abbrev pub word : ℕ → List ℕ
word k = piece_in words (codes "x") k

-- a mark of the kind
abbrev pub mark : ℕ → List ℕ
mark k = piece_in marks [] k

-- a token of the kind
abbrev pub sample : ℕ → Lexeme
sample k = if ltb k ZERO then record { kind = Word; piece = word k }
    else if eqb k ZERO then record { kind = Whole; piece = codes "0" }
    else if eqb k NONZERO then record { kind = Whole; piece = codes "1" }
    else if eqb k TEXT then record { kind = Text; piece = codes "''" }
    else record { kind = Mark; piece = mark k }

pub sampled : grammar_sampled kind sample grammar ≡ true
unfolding grammar
sampled = refl {a = true}
