-- The laws of programs. Each has a node. A value within bounds is the value at any size, and a value at any size is
-- within bounds the same or Range.
use Rattle.std.proofs.Common.{◌≡◌, ◌≤◌, ℕ, ℤ, arith, List, [], ◌∷◌, Option, Some, refl}
use Rattle.qc_data.specs.Kinds.{as_coll}
use Rattle.qc_data.specs.Outcome.{any_size, within, Outcome, and_then, Agrees}
use Rattle.qc_data.specs.declared.data.Datum.{Datum}
use Rattle.qc_data.specs.declared.data.Datum.TheVariants.{Coll}
use Rattle.qc_data.proofs.Outcomes.{agrees_same, agrees_then, agrees_after, agrees_gather}
use Rattle.qc_ops.specs.Operands.{found}
use Rattle.qc_ops.proofs.OperatorLaws.{agrees_unary, agrees_binary, agrees_side}
use Rattle.qc_types.specs.Schemas.{WorldOf, global}
use Rattle.qc_trees.specs.Branches.{truth}
use Rattle.qc_trees.proofs.FormLaws.{agrees_truth, agrees_choice}
use Rattle.qc_nnrs.specs.declared.tree.NnrsExpr.{NnrsExpr}
use Rattle.qc_nnrs.specs.declared.tree.NnrsExpr.TheOpen.{NnrsExpr-F}
use Rattle.qc_nnrs.specs.declared.tree.NnrsExpr.TheViews.{roll-NnrsExpr}
use Rattle.qc_nnrs.specs.declared.tree.NnrsExpr.TheFolds.{fold-roll-NnrsExpr, map-NnrsExpr}
use Rattle.qc_nnrs.specs.declared.tree.NnrsStmt.{NnrsStmt}
use Rattle.qc_nnrs.specs.declared.tree.NnrsStmt.TheOpen.{NnrsStmt-F}
use Rattle.qc_nnrs.specs.declared.tree.NnrsStmt.TheViews.{roll-NnrsStmt}
use Rattle.qc_nnrs.specs.declared.tree.NnrsStmt.TheFolds.{fold-roll-NnrsStmt, map-NnrsStmt}
use Rattle.qc_nnrs.specs.declared.tree.Nnrs.{Nnrs}
use Rattle.qc_nnrs.specs.Meaning.{Class, Reads, Sets, Pushes, Frame, Writes, Reading, Meaning, class_of, value_in}
use Rattle.qc_nnrs.specs.Meaning.{set_at, push_at, written, last_of, expr_form, expr, seq_of, reads_as, handed_on}
use Rattle.qc_nnrs.specs.Meaning.{for_of, form, stmt, nnrs}
use Rattle.qc_nnrs.specs.Sizes.{size}
use Rattle.qc_nnrs.specs.inner.Induction.{HeldExpr, expr_ind, HeldStmt, stmt_ind}

-- ---- sizes

pub sized : (p : Nnrs) → 1 ≤ size p
sized p = omega arith

-- ---- expressions

-- the outcomes of two expressions, by what variables stand for
abbrev AgreesR : Reading → Reading → Type 0
AgreesR p q = (f : Frame) → Agrees (p f) (q f)

module _ (low high : ℤ) (w : WorldOf) where
  abbrev any_expr : NnrsExpr → Reading
  any_expr e = expr any_size w e

  abbrev some_expr : NnrsExpr → Reading
  some_expr e = expr (within low high) w e

  abbrev OfExpr : NnrsExpr → Type 0
  OfExpr e = AgreesR (any_expr e) (some_expr e)

  expr_layer : (x : NnrsExpr-F NnrsExpr) → HeldExpr OfExpr x
      → AgreesR (expr_form any_size w (map-NnrsExpr NnrsExpr Reading any_expr x))
      (expr_form (within low high) w (map-NnrsExpr NnrsExpr Reading some_expr x))
  expr_layer (NnrsExpr-F.Var x) h f = agrees_same (found (value_in (class_of x f)))
  expr_layer (NnrsExpr-F.Const d) h f = refl
  expr_layer (NnrsExpr-F.Global name) h f = agrees_same (found (global name w.datum))
  expr_layer (NnrsExpr-F.Unary op a) h f =
      agrees_then (any_expr a f) (some_expr a f) _ _ (h f) (λ v. agrees_unary low high w.classes op v)
  expr_layer (NnrsExpr-F.Binary op a b) h f =
      agrees_then (any_expr a f) (some_expr a f) _ _ (h.0 f)
      (λ u. agrees_then (any_expr b f) (some_expr b f) _ _ (h.1 f) (λ v. agrees_binary low high op u v))

  of_expr_layer : (x : NnrsExpr-F NnrsExpr) → HeldExpr OfExpr x → OfExpr (roll-NnrsExpr x)
  of_expr_layer x h f =
      let at_any : any_expr (roll-NnrsExpr x) ≡ expr_form any_size w (map-NnrsExpr NnrsExpr Reading any_expr x) =
      fold-roll-NnrsExpr Reading (expr_form any_size w) x in
      let at_some : some_expr (roll-NnrsExpr x)
      ≡ expr_form (within low high) w (map-NnrsExpr NnrsExpr Reading some_expr x) =
      fold-roll-NnrsExpr Reading (expr_form (within low high) w) x in
      rw (at_any, at_some) (expr_layer x h f)

  pub agrees_expr : (e : NnrsExpr) → OfExpr e
  agrees_expr = expr_ind OfExpr of_expr_layer

-- ---- statements

-- the writes of two statements, by what variables stand for
abbrev AgreesM : Meaning → Meaning → Type 0
AgreesM p q = (f : Frame) → Agrees (p f) (q f)

agrees_seq : (a b c d : Meaning) → AgreesM a c → AgreesM b d → AgreesM (seq_of a b) (seq_of c d)
unfolding seq_of
agrees_seq a b c d h k f =
    agrees_then (a f) (c f) _ _ (h f) (λ us. agrees_then (b f) (d f) _ _ (k f) (λ vs. refl))

agrees_handed : (x : ℕ) (class : Class) (last : List Datum → Option Datum) (a b c d : Meaning) → AgreesM a c
    → AgreesM b d → AgreesM (handed_on x class last a b) (handed_on x class last c d)
unfolding handed_on
agrees_handed x class last a b c d h k f =
    agrees_then (a ((x, class) ∷ f)) (c ((x, class) ∷ f)) _ _ (h ((x, class) ∷ f))
    (λ us. agrees_then (b ((x, Reads (last (written x us))) ∷ f)) (d ((x, Reads (last (written x us))) ∷ f)) _ _
    (k ((x, Reads (last (written x us))) ∷ f)) (λ vs. refl))

module _ (x : ℕ) (p q : Meaning) (h : AgreesM p q) (f : Frame) where
  agrees_reads : (d : Datum) → Agrees (reads_as x p f d) (reads_as x q f d)
  unfolding reads_as
  agrees_reads d = h ((x, Reads (Some d)) ∷ f)

  agrees_for : (v : Datum) → Agrees (for_of x p f v) (for_of x q f v)
  unfolding for_of
  agrees_for v =
      agrees_after (as_coll v) _ _ (λ ds. agrees_gather (reads_as x p f) (reads_as x q f) ds agrees_reads)

module _ (low high : ℤ) (w : WorldOf) where
  abbrev any : NnrsStmt → Meaning
  any s = stmt any_size w s

  abbrev some : NnrsStmt → Meaning
  some s = stmt (within low high) w s

  abbrev Of : NnrsStmt → Type 0
  Of s = AgreesM (any s) (some s)

  after_expr : (e : NnrsExpr) (f : Frame) (g h : Datum → Outcome Writes) → ((d : Datum) → Agrees (g d) (h d))
      → Agrees (and_then (expr any_size w e f) g) (and_then (expr (within low high) w e f) h)
  after_expr e f g h k =
      agrees_then (expr any_size w e f) (expr (within low high) w e f) g h (agrees_expr low high w e f) k

  layer : (x : NnrsStmt-F NnrsStmt) → HeldStmt Of x
      → AgreesM (form any_size w (map-NnrsStmt NnrsStmt Meaning any x))
      (form (within low high) w (map-NnrsStmt NnrsStmt Meaning some x))
  layer (NnrsStmt-F.Seq a b) h f = agrees_seq (any a) (any b) (some a) (some b) h.0 h.1 f
  layer (NnrsStmt-F.Let x e b) h f = after_expr e f _ _ (agrees_reads x (any b) (some b) h f)
  layer (NnrsStmt-F.LetMut x a b) h f =
      agrees_handed x Sets last_of (any a) (any b) (some a) (some b) h.0 h.1 f
  layer (NnrsStmt-F.LetColl x a b) h f =
      agrees_handed x Pushes (λ ds. Some (Coll ds)) (any a) (any b) (some a) (some b) h.0 h.1 f
  layer (NnrsStmt-F.Set x e) h f = after_expr e f _ _ (λ d. agrees_same (set_at x d (class_of x f)))
  layer (NnrsStmt-F.Push x e) h f = after_expr e f _ _ (λ d. agrees_same (push_at x d (class_of x f)))
  layer (NnrsStmt-F.For x e b) h f = after_expr e f _ _ (agrees_for x (any b) (some b) h f)
  layer (NnrsStmt-F.If e a b) h f =
      agrees_then (truth (expr any_size w e f)) (truth (expr (within low high) w e f)) _ _
      (agrees_truth (expr any_size w e f) (expr (within low high) w e f) (agrees_expr low high w e f))
      (λ holds. agrees_choice holds (any a f) (any b f) (some a f) (some b f) (h.0 f) (h.1 f))
  layer (NnrsStmt-F.Either e x a y b) h f =
      after_expr e f _ _
      (λ v. agrees_side _ _ _ _ (agrees_reads x (any a) (some a) h.0 f) (agrees_reads y (any b) (some b) h.1 f) v)

  of_layer : (x : NnrsStmt-F NnrsStmt) → HeldStmt Of x → Of (roll-NnrsStmt x)
  of_layer x h f =
      let at_any : any (roll-NnrsStmt x) ≡ form any_size w (map-NnrsStmt NnrsStmt Meaning any x) =
      fold-roll-NnrsStmt Meaning (form any_size w) x in
      let at_some : some (roll-NnrsStmt x) ≡ form (within low high) w (map-NnrsStmt NnrsStmt Meaning some x) =
      fold-roll-NnrsStmt Meaning (form (within low high) w) x in
      rw (at_any, at_some) (layer x h f)

  pub agrees_stmt : (s : NnrsStmt) → Of s
  agrees_stmt = stmt_ind Of of_layer

  -- ---- programs

  pub agrees_nnrs : (p : Nnrs) → Agrees (nnrs any_size w p) (nnrs (within low high) w p)
  agrees_nnrs p =
      agrees_then (any p.body ((p.result, Sets) ∷ [])) (some p.body ((p.result, Sets) ∷ [])) _ _
      (agrees_stmt p.body ((p.result, Sets) ∷ [])) (λ ws. agrees_same (found (last_of (written p.result ws))))
