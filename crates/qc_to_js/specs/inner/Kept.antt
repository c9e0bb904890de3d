-- What each part of a program on JSON keeps of the part of the program over data that it is for.
use Rattle.std.specs.Prelude.{◌≡◌, true, false, List, map, is_some, Option, Some}
use Rattle.qc_data.specs.Encoding.{enc}
use Rattle.qc_data.specs.Outcome.{Mode, Outcome, Value, Halts, and_then}
use Rattle.qc_data.specs.declared.data.Datum.{Datum}
use Rattle.qc_data.specs.declared.data.Json.{Json}
use Rattle.qc_types.specs.Classes.{Defs}
use Rattle.qc_types.specs.Schemas.{WorldOf}
use Rattle.qc_rt.specs.Laws.{plain}
use Rattle.qc_imp.specs.declared.tree.ImpExpr.{ImpExpr}
use Rattle.qc_imp.specs.declared.tree.ImpStmt.{ImpStmt}
use Rattle.qc_imp.specs.Meaning as imp
use Rattle.qc_imp.specs.WellFormed as rules
use Rattle.qc_js.specs.declared.tree.Expr.{Expr}
use Rattle.qc_js.specs.declared.tree.Stmt.{Stmt}
use Rattle.qc_js.specs.Meaning as json
use Rattle.qc_js.specs.WellFormed as scopes
use Rattle.qc_to_js.specs.inner.Cells.{store_json, PlainStore, Mirrors}

-- a world of the classes, whose datum is plain
pub record IsSetting (classes : Defs) (w : WorldOf) : Type 0 where
  pub classes_are : w.classes ≡ classes
  pub is_plain : plain w.datum ≡ true

-- a value holds the claim
abbrev pub Holds : {A : Type 0} → (A → Type 0) → Outcome A → Type 0
Holds P (Value a) = P a
Holds P (Halts why) = Unit {0}

-- the second outcome is the first one's image, of which a value holds the claim
abbrev pub Related : {A B : Type 0} → (A → Type 0) → (A → B) → Outcome A → Outcome B → Type 0
Related P f o p = Holds P o × (p ≡ and_then o (λ a. Value (f a)))

-- ---- expressions

abbrev pub Plain : Datum → Type 0
Plain d = plain d ≡ true

-- the encoding of an outcome of which a value is plain
abbrev pub IsEncoded : Outcome Datum → Outcome Json → Type 0
IsEncoded = Related Plain enc

-- an expression on JSON for one over data
pub record IsExpr (classes : Defs) (e : ImpExpr) (made : Expr) : Type 0 where
  pub values : (m : Mode) (w : WorldOf) (st : imp.Store) → IsSetting classes w → PlainStore st
      → IsEncoded (imp.expr m w e st) (json.expr m (enc w.datum) made (store_json st))
  pub fits : (s : rules.Scope) (t : scopes.Scope) → Mirrors s t → rules.fits_expr e s ≡ true
      → scopes.expr_fits t made ≡ true
  pub not_bare : scopes.is_bare made ≡ false

-- ---- statements

-- the encodings of what is declared
abbrev pub AreEncoded : Outcome imp.Store → Outcome json.Store → Type 0
AreEncoded = Related PlainStore store_json

-- a meaning on JSON for one over data
abbrev pub Runs : Defs → (Mode → WorldOf → imp.Meaning) → (Mode → Json → json.Meaning) → Type 0
Runs classes f g =
    (m : Mode) (w : WorldOf) (st : imp.Store) → IsSetting classes w → PlainStore st
    → AreEncoded (f m w st) (g m (enc w.datum) (store_json st))

-- the scope is there, and has the same variables
abbrev pub IsScope : rules.Scope → Option scopes.Scope → Type 0
IsScope s o = (t : scopes.Scope) × (o ≡ Some t) × Mirrors s t

-- a rule on JSON for one over data
abbrev pub Ruled : rules.Scoping → scopes.Rule → Type 0
Ruled f g =
    (s after : rules.Scope) (t : scopes.Scope) → Mirrors s t → f s ≡ Some after → IsScope after (g t)

-- a statement on JSON for one over data
pub record IsStmt (classes : Defs) (a : ImpStmt) (made : Stmt) : Type 0 where
  pub runs : Runs classes (λ m w. imp.stmt m w a) (λ m w. json.stmt m w made)
  pub ruled : Ruled (rules.fits_stmt a) (scopes.rule made)

-- statements in order
pub record AreStmts (classes : Defs) (ss : List ImpStmt) (made : List Stmt) : Type 0 where
  pub runs : Runs classes (λ m w. imp.all_of (map (imp.stmt m w) ss)) (λ m w. json.all_of (map (json.stmt m w) made))
  pub ruled : Ruled (rules.all_fit (map rules.fits_stmt ss)) (scopes.all_rules (map scopes.rule made))

-- a block for statements whose declarations end with them
pub record IsBlock (classes : Defs) (f : Mode → WorldOf → imp.Meaning) (fits : rules.Scoping) (made : List Stmt)
    : Type 0 where
  pub runs : Runs classes (λ m w. imp.scoped (f m w)) (λ m w. json.scoped (map (json.stmt m w) made))
  pub ruled : (s : rules.Scope) (t : scopes.Scope) → Mirrors s t → is_some (fits s) ≡ true
      → is_some (scopes.all_rules (map scopes.rule made) t) ≡ true
