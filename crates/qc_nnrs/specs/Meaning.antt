-- What programs of statements mean, by mode and world. A statement reads what variables stand for, and gives what it
-- writes, in order. The first outcome that is no value decides.
use Rattle.std.specs.Prelude.{ℕ, cond, List, [], ◌∷◌, ◌++◌, Option, Some}
use Rattle.qc_data.specs.Kinds.{as_coll}
use Rattle.qc_data.specs.Outcome.{Mode, Outcome, Value, and_then, gather}
use Rattle.qc_data.specs.declared.data.Datum.{Datum}
use Rattle.qc_data.specs.declared.data.Datum.TheVariants.{Coll}
use Rattle.qc_ops.specs.Operands.{found}
use Rattle.qc_ops.specs.Operators.{unary, binary}
use Rattle.qc_ops.specs.Sides.{by_side}
use Rattle.qc_trees.specs.Branches.{truth}
use Rattle.qc_types.specs.Schemas.{WorldOf, global}
pub use Rattle.qc_nnrs_store.specs.Variables.{Class, Reads, Sets, Pushes, Frame, Writes, class_of, value_in, set_at}
pub use Rattle.qc_nnrs_store.specs.Variables.{push_at, written, without, last_of}
use Rattle.qc_nnrs.specs.declared.tree.NnrsExpr.{NnrsExpr}
use Rattle.qc_nnrs.specs.declared.tree.NnrsExpr.TheOpen.{NnrsExpr-F}
use Rattle.qc_nnrs.specs.declared.tree.NnrsExpr.TheFolds.{fold-NnrsExpr}
use Rattle.qc_nnrs.specs.declared.tree.NnrsStmt.{NnrsStmt}
use Rattle.qc_nnrs.specs.declared.tree.NnrsStmt.TheOpen.{NnrsStmt-F}
use Rattle.qc_nnrs.specs.declared.tree.NnrsStmt.TheFolds.{fold-NnrsStmt}
use Rattle.qc_nnrs.specs.declared.tree.Nnrs.{Nnrs}

-- ---- expressions

-- the outcome of an expression, by what variables stand for
abbrev pub Reading : Type 0
Reading = Frame → Outcome Datum

-- an expression by the outcomes of its parts
abbrev pub expr_form : Mode → WorldOf → NnrsExpr-F Reading → Reading
expr_form m w (NnrsExpr-F.Var x) f = found (value_in (class_of x f))
expr_form m w (NnrsExpr-F.Const d) f = Value d
expr_form m w (NnrsExpr-F.Global name) f = found (global name w.datum)
expr_form m w (NnrsExpr-F.Unary op a) f = and_then (a f) (unary m w.classes op)
expr_form m w (NnrsExpr-F.Binary op a b) f = and_then (a f) (λ u. and_then (b f) (λ v. binary m op u v))

abbrev pub expr : Mode → WorldOf → NnrsExpr → Reading
expr m w e = fold-NnrsExpr Reading (expr_form m w) e

-- ---- statements

-- what a statement writes, by what variables stand for
abbrev pub Meaning : Type 0
Meaning = Frame → Outcome Writes

-- the second after the first
unfoldable pub seq_of : Meaning → Meaning → Meaning
seq_of a b f = and_then (a f) (λ us. and_then (b f) (λ vs. Value (us ++ vs)))

-- the body with a variable that is read
unfoldable pub reads_as : ℕ → Meaning → Frame → Datum → Outcome Writes
reads_as x b f d = b ((x, Reads (Some d)) ∷ f)

-- what the first part writes to the variable is what it stands for in the second, which reads it by h
unfoldable pub handed_on : ℕ → Class → (List Datum → Option Datum) → Meaning → Meaning → Meaning
handed_on x class h a b f =
    and_then (a ((x, class) ∷ f)) (λ us.
    and_then (b ((x, Reads (h (written x us))) ∷ f)) (λ vs. Value (without x us ++ vs)))

-- for: what each member writes, in order
unfoldable pub for_of : ℕ → Meaning → Frame → Datum → Outcome Writes
for_of x b f v = and_then (as_coll v) (gather (reads_as x b f))

-- a statement by the meanings of its parts
abbrev pub form : Mode → WorldOf → NnrsStmt-F Meaning → Meaning
form m w (NnrsStmt-F.Seq a b) f = seq_of a b f
form m w (NnrsStmt-F.Let x e b) f = and_then (expr m w e f) (reads_as x b f)
form m w (NnrsStmt-F.LetMut x a b) f = handed_on x Sets last_of a b f
form m w (NnrsStmt-F.LetColl x a b) f = handed_on x Pushes (λ ds. Some (Coll ds)) a b f
form m w (NnrsStmt-F.Set x e) f = and_then (expr m w e f) (λ d. set_at x d (class_of x f))
form m w (NnrsStmt-F.Push x e) f = and_then (expr m w e f) (λ d. push_at x d (class_of x f))
form m w (NnrsStmt-F.For x e b) f = and_then (expr m w e f) (for_of x b f)
form m w (NnrsStmt-F.If e a b) f = and_then (truth (expr m w e f)) (λ holds. cond holds (a f) (b f))
form m w (NnrsStmt-F.Either e x a y b) f = and_then (expr m w e f) (by_side (reads_as x a f) (reads_as y b f))

-- what a statement writes, in a mode and a world
abbrev pub stmt : Mode → WorldOf → NnrsStmt → Meaning
stmt m w s = fold-NnrsStmt Meaning (form m w) s

-- a program: the last value that its variable was set to
abbrev pub nnrs : Mode → WorldOf → Nnrs → Outcome Datum
nnrs m w p = and_then (stmt m w p.body ((p.result, Sets) ∷ [])) (λ ws. found (last_of (written p.result ws)))
