-- Data and parameters written out as expressions.
use Rattle.std.specs.Prelude.{◌≡◌, ℕ, Bool, true, false, not, ◌&&◌, List, [], ◌∷◌, ◌++◌, filter, map}
use Rattle.std.specs.Str.{bytes_eq}
use Rattle.qc_data.specs.Encoding.{enc}
use Rattle.qc_data.specs.Outcome.{Mode, Value}
use Rattle.qc_data.specs.declared.data.Datum.{Datum}
use Rattle.qc_data.specs.declared.data.Datum.TheOpen.{Datum-F}
use Rattle.qc_data.specs.declared.data.Datum.TheFolds.{fold-Datum}
use Rattle.qc_data.specs.declared.data.Json.{Json}
use Rattle.qc_ops.specs.declared.op.Unary.{Unary}
use Rattle.qc_types.specs.Classes.{Defs, below}
use Rattle.qc_rt.specs.Laws.{HasClasses, HasNames, arguments1, function1, plain}
use Rattle.qc_rt.specs.declared.function.Rt.TheVariants as rt
use Rattle.qc_js.specs.declared.tree.Expr.{Expr}
use Rattle.qc_js.specs.declared.tree.Expr.TheVariants as tree
use Rattle.qc_js.specs.Meaning.{Store, expr}
use Rattle.qc_js.specs.WellFormed.{Scope, expr_fits, is_bare}

-- the expression is the tree, wherever it stands
pub record Writes (j : Json) (e : Expr) : Type 0 where
  pub value : (m : Mode) (w : Json) (st : Store) → expr m w e st ≡ Value j
  pub fits : (s : Scope) → expr_fits s e ≡ true

-- each of the expressions is its tree
abbrev pub WritesAll : List Json → List Expr → Type 0
WritesAll [] [] = Unit {0}
WritesAll (j ∷ js) (e ∷ es) = Writes j e × WritesAll js es
WritesAll _ _ = ⊥

-- ---- data

abbrev pub truth : Bool → Expr
truth true = tree.True
truth false = tree.False

-- an array; the bare [] is written in a call
abbrev pub array : List Expr → Expr
array [] = tree.Call rt.Flatten (tree.Array [] ∷ [])
array (e ∷ es) = tree.Array (e ∷ es)

-- a record field by field
abbrev pub field : List ℕ × Expr → Expr
field p = tree.Call rt.Rec (tree.Text p.0 ∷ p.1 ∷ [])

abbrev pub record_from : Expr → List (List ℕ × Expr) → Expr
record_from e [] = e
record_from e (p ∷ ps) = record_from (tree.Call rt.Cat (e ∷ field p ∷ [])) ps

abbrev pub record_of : List (List ℕ × Expr) → Expr
record_of ps = record_from (tree.Call rt.Nothing []) ps

-- one layer, whose parts are written
abbrev pub constant_step : Datum-F Expr → Expr
constant_step Datum-F.Unit = tree.Null
constant_step (Datum-F.Bool b) = truth b
constant_step (Datum-F.Int n) = tree.Int n
constant_step (Datum-F.Text t) = tree.Text t
constant_step (Datum-F.Coll es) = array es
constant_step (Datum-F.Rec ps) = record_of ps
constant_step (Datum-F.Left e) = tree.Call rt.Left (e ∷ [])
constant_step (Datum-F.Right e) = tree.Call rt.Right (e ∷ [])
constant_step (Datum-F.Brand n e) = tree.Call rt.Brand (tree.Text n ∷ e ∷ [])

-- a datum written out
abbrev pub constant : Datum → Expr
constant = fold-Datum Expr constant_step

-- the expression is the datum, which is plain, and it is not []
pub record WritesDatum (d : Datum) (e : Expr) : Type 0 where
  pub written : Writes (enc d) e
  pub is_plain : plain d ≡ true
  pub not_bare : is_bare e ≡ false

-- ---- parameters

-- a class is another than a second, and below it
abbrev pub is_other : Defs → List ℕ → List ℕ → Bool
is_other c other name = not (bytes_eq other name) && below c other name

-- a class, and those of the list that are below it
abbrev pub classes_under : Defs → List ℕ → Defs → List (List ℕ)
classes_under c name ds =
    name ∷ filter (λ other. is_other c other name) (map (λ d. d.name) ds)

-- the expressions are the parameters of an operator whose names are no markers
pub record AreParameters (c : Defs) (op : Unary) (es : List Expr) : Type 0 where
  pub classes : List (List ℕ)
  pub written : WritesAll (arguments1 classes op) es
  pub names : HasNames op
  pub are_classes : HasClasses c op classes

-- a call of an operator's function on its parameters and an operand
pub record IsCall (c : Defs) (op : Unary) (a made : Expr) : Type 0 where
  pub before : List Expr
  pub are_parameters : AreParameters c op before
  pub is_call : made ≡ tree.Call (function1 op) (before ++ a ∷ [])
