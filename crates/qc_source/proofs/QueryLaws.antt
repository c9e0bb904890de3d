-- Tokens spell one query of a schema, or have one fault.
use Rattle.std.proofs.Common.{◌≡◌, ◌≢◌, ℕ, List, Result, Ok, Err, refl, sym, ap, ◌∙◌}
use Rattle.qc_grammar.specs.declared.fault.SyntaxFault.{SyntaxFault}
use Rattle.qc_grammar.specs.declared.fault.SyntaxFault.TheVariants as syntax
use Rattle.qc_grammar.specs.Parsing.{Spells, Refused, Parses}
use Rattle.qc_lex.specs.declared.token.Lexeme.{Lexeme}
use Rattle.qc_lex.specs.declared.token.Placed.{Placed}
use Rattle.qc_lex.specs.Words.{lexemes}
use Rattle.qc_types.specs.declared.ty.Ty.{Ty}
use Rattle.qc_types.specs.Schemas.{SchemaOf}
use Rattle.qc_typing.specs.Checking.{Checks}
use Rattle.qc_typing.specs.declared.fault.TypeFault.{TypeFault}
use Rattle.qc_typing.specs.declared.fault.TypeFault.TheVariants as type
use Rattle.qc_source.specs.declared.fault.QueryFault.{QueryFault}
use Rattle.qc_source.specs.declared.fault.QueryFault.TheVariants.{BadScan, TooManyTokens, BadSyntax, BadType, Memory}
use Rattle.qc_source.specs.Faults.{of_syntax, of_type}
use Rattle.qc_source.specs.Queries.{IsQuery, IsFault}
use Rattle.qc_source.proofs.Places.{one_place}

module _ {Q : Type 0} (Grammar : List Lexeme → Q → Type 0) (type_in : SchemaOf → Q → Result Ty ℕ)
    (schema : SchemaOf) (words : List Placed) where
  abbrev IsHere : Q → Type 0
  IsHere query = Spells Grammar (lexemes words) query

  -- ---- faults of the parser and of the checker are those of the query

  pub syntax_fault : (f : SyntaxFault) → Parses Grammar (lexemes words) (Err f)
      → IsFault Grammar type_in schema words (of_syntax f)
  syntax_fault (syntax.BadSyntax at) u = u
  syntax_fault syntax.Memory u = u

  pub type_fault : (query : Q) (f : TypeFault) → IsHere query → Checks (type_in schema query) (Err f)
      → IsFault Grammar type_in schema words (of_type f)
  type_fault query (type.BadType at) s u = (query, s, u)
  type_fault query type.Memory s u = tt

  -- ---- there is one query, or one fault

  one_spelled : (p q : Q) → IsHere p → IsHere q → p ≡ q
  one_spelled p q s t = t.only p s.spells

  not_refused : (p : Q) (at : ℕ) → IsHere p → Refused Grammar (lexemes words) at → ⊥
  not_refused p at s u = u.none p s.spells

  one_typing : (p q : Q) (r s : Result Ty ℕ) → IsHere p → IsHere q → type_in schema p ≡ r → type_in schema q ≡ s → r ≡ s
  one_typing p q r s a b e f = sym e ∙ ap (type_in schema) (one_spelled p q a b) ∙ f

  well_typed : (p q : Q) (t : Ty) (at : ℕ) → IsHere p → IsHere q
      → type_in schema p ≡ Ok t → type_in schema q ≡ Err at → ⊥
  well_typed p q t at a b e f = let clash = one_typing p q (Ok t) (Err at) a b e f in cc

  one_error : (p q : Q) (i j : ℕ) → IsHere p → IsHere q → type_in schema p ≡ Err i → type_in schema q ≡ Err j → i ≡ j
  one_error p q i j a b e f = let one = one_typing p q (Err i) (Err j) a b e f in cc

  one_type : (p q : Q) (t u : Ty) → IsHere p → IsHere q → type_in schema p ≡ Ok t → type_in schema q ≡ Ok u → t ≡ u
  one_type p q t u a b e f = let one = one_typing p q (Ok t) (Ok u) a b e f in cc

  -- tokens spell one query, with one type
  pub one_query : (p q : Q) (t u : Ty) → IsQuery Grammar type_in schema words p t
      → IsQuery Grammar type_in schema words q u
      → (p ≡ q) × (t ≡ u)
  one_query p q t u a b =
      (one_spelled p q a.spelled b.spelled, one_type p q t u a.spelled b.spelled a.is_type b.is_type)

  -- tokens that spell a query have no fault
  pub no_fault : (p : Q) (t : Ty) (f : QueryFault) → IsQuery Grammar type_in schema words p t
      → IsFault Grammar type_in schema words f → f ≡ Memory
  no_fault p t (BadScan at) a u = absurd u
  no_fault p t TooManyTokens a u = absurd u
  no_fault p t (BadSyntax at) a u = absurd (not_refused p at a.spelled u)
  no_fault p t (BadType at) a u = absurd (well_typed p u.0 t at a.spelled u.1 a.is_type u.2)
  no_fault p t Memory a u = refl

  -- and others have one, but for want of memory
  pub one_fault : (f g : QueryFault) → f ≢ Memory → g ≢ Memory → IsFault Grammar type_in schema words f
      → IsFault Grammar type_in schema words g → f ≡ g
  one_fault Memory g m n u v = absurd (m refl)
  one_fault f Memory m n u v = absurd (n refl)
  one_fault (BadScan a) g m n u v = absurd u
  one_fault TooManyTokens g m n u v = absurd u
  one_fault f (BadScan b) m n u v = absurd v
  one_fault f TooManyTokens m n u v = absurd v
  one_fault (BadSyntax a) (BadSyntax b) m n u v =
      ap (λ (at : ℕ). BadSyntax at) (one_place Grammar (lexemes words) a b u.place v.place)
  one_fault (BadSyntax a) (BadType b) m n u v = absurd (not_refused v.0 a v.1 u)
  one_fault (BadType a) (BadSyntax b) m n u v = absurd (not_refused u.0 b u.1 v)
  one_fault (BadType a) (BadType b) m n u v =
      ap (λ (at : ℕ). BadType at) (one_error u.0 v.0 a b u.1 v.1 u.2 v.2)
