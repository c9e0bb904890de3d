-- What scanning a text answers.
use Rattle.std.specs.Prelude.{◌≡◌, ℕ, List, map}
use Rattle.qc_js.specs.declared.token.Token.{Token}
use Rattle.qc_js.specs.Spelling.{Scans, Stops}
use Rattle.qc_js_lex.specs.declared.lexeme.Lexeme.{Lexeme}
use Rattle.qc_js_lex.specs.declared.scanning.Scan.{Scan}
use Rattle.qc_js_lex.specs.declared.scanning.Scan.TheVariants.{Lexemes, BadScan}
use Rattle.qc_js_lex.specs.Lexemes.{lexeme_of}

-- the text has tokens, and these are their lexemes
pub record IsScan (text : List ℕ) (lexemes : List Lexeme) : Type 0 where
  pub tokens : List Token
  pub scanned : Scans text tokens
  pub only : (others : List Token) → Scans text others → map lexeme_of others ≡ lexemes

-- no blank, comment or token begins at this place of the text, which is the first one, and so the text has no tokens
pub record IsBad (text : List ℕ) (at : ℕ) : Type 0 where
  pub stops : Stops text at
  pub no_scan : (tokens : List Token) → ¬ Scans text tokens

abbrev pub Answers : List ℕ → Scan → Type 0
Answers text (Lexemes lexemes) = IsScan text lexemes.items
Answers text (BadScan at) = IsBad text at
