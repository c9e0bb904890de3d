-- Which tokens bytes are, and which query tokens spell; and which fault there is where they are or spell none.
use Rattle.std.specs.Prelude.{◌≡◌, ℕ, ◌<◌, ◌≤◌, List, length, Result, Ok, Err}
use Rattle.qc_grammar.specs.Parsing.{Spells, Refused}
use Rattle.qc_lex.specs.declared.token.Lexeme.{Lexeme}
use Rattle.qc_lex.specs.declared.token.Placed.{Placed}
use Rattle.qc_lex.specs.declared.token.Table.{Table}
use Rattle.qc_lex.specs.Scanned.{IsScan, IsBad}
use Rattle.qc_lex.specs.Words.{lexemes}
use Rattle.qc_types.specs.declared.ty.Ty.{Ty}
use Rattle.qc_types.specs.Schemas.{SchemaOf}
use Rattle.qc_source.specs.declared.fault.QueryFault.{QueryFault}
use Rattle.qc_source.specs.declared.fault.QueryFault.TheVariants.{BadScan, TooManyTokens, BadSyntax, BadType, Memory}

-- ---- from bytes to tokens, by a table

-- the bytes are these tokens and no others, and they are at most 1,000
pub record IsTokens (table : Table) (bytes : List ℕ) (words : List Placed) : Type 0 where
  pub scan : IsScan table bytes words
  pub few : length words ≤ 1000

-- why the bytes are no tokens, or too many; want of memory needs no cause
abbrev pub IsScanFault : Table → List ℕ → QueryFault → Type 0
IsScanFault table bytes (BadScan at) = IsBad table bytes at
IsScanFault table bytes TooManyTokens = (words : List Placed) × IsScan table bytes words × (1000 < length words)
IsScanFault table bytes (BadSyntax at) = ⊥
IsScanFault table bytes (BadType at) = ⊥
IsScanFault table bytes Memory = Unit {0}

-- ---- from tokens to a typed query, by which tokens spell which query, and by a query's type or the place of its fault

module _ {Q : Type 0} (Grammar : List Lexeme → Q → Type 0) (type_in : SchemaOf → Q → Result Ty ℕ) where
  -- the tokens spell this query and no other, and it has this type in the schema
  pub record IsQuery (schema : SchemaOf) (words : List Placed) (query : Q) (ty : Ty) : Type 0 where
    pub spelled : Spells Grammar (lexemes words) query
    pub is_type : type_in schema query ≡ Ok ty

  -- why the tokens spell no query of the schema; want of memory needs no cause
  abbrev pub IsFault : SchemaOf → List Placed → QueryFault → Type 0
  IsFault schema words (BadScan at) = ⊥
  IsFault schema words TooManyTokens = ⊥
  IsFault schema words (BadSyntax at) = Refused Grammar (lexemes words) at
  IsFault schema words (BadType at) =
      (query : Q) × Spells Grammar (lexemes words) query × (type_in schema query ≡ Err at)
  IsFault schema words Memory = Unit {0}
