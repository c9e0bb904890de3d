-- The laws of programs. Each has a node. A value within bounds is the value at any size, and a value at any size is
-- within bounds the same or Range.
use Rattle.std.proofs.Common.{◌≡◌, ◌≤◌, ℕ, ℤ, arith, true, false, List, [], ◌∷◌, map, refl}
use Rattle.std.specs.List.{AllByRecursion}
use Rattle.qc_data.specs.Kinds.{as_coll}
use Rattle.qc_data.specs.Outcome.{any_size, within, Outcome, Value, and_then, Agrees}
use Rattle.qc_data.specs.declared.data.Datum.{Datum}
use Rattle.qc_data.specs.declared.data.Datum.TheVariants.{Bool as Truth}
use Rattle.qc_data.proofs.Outcomes.{agrees_same, agrees_then, agrees_after}
use Rattle.qc_ops.specs.Operands.{found}
use Rattle.qc_ops.specs.Sides.{by_side}
use Rattle.qc_ops.proofs.OperatorLaws.{agrees_unary, agrees_binary}
use Rattle.qc_types.specs.Schemas.{WorldOf, global}
use Rattle.qc_trees.specs.Branches.{truth}
use Rattle.qc_trees.proofs.FormLaws.{agrees_truth, agrees_choice}
use Rattle.qc_imp.specs.declared.tree.ImpExpr.{ImpExpr}
use Rattle.qc_imp.specs.declared.tree.ImpExpr.TheOpen.{ImpExpr-F}
use Rattle.qc_imp.specs.declared.tree.ImpExpr.TheViews.{roll-ImpExpr}
use Rattle.qc_imp.specs.declared.tree.ImpExpr.TheFolds.{fold-roll-ImpExpr, map-ImpExpr}
use Rattle.qc_imp.specs.declared.tree.ImpStmt.{ImpStmt}
use Rattle.qc_imp.specs.declared.tree.ImpStmt.TheOpen.{ImpStmt-F}
use Rattle.qc_imp.specs.declared.tree.ImpStmt.TheViews.{out-ImpStmt, roll-ImpStmt}
use Rattle.qc_imp.specs.declared.tree.ImpStmt.TheFolds.{fold-roll-ImpStmt, map-ImpStmt}
use Rattle.qc_imp.specs.declared.tree.Imp.{Imp}
use Rattle.qc_imp.specs.Meaning.{Constant, Collecting, Store, Reading, Meaning, value_in, cell_of, set_to}
use Rattle.qc_imp.specs.Meaning.{pushed_to, changed, expr_form, expr, all_of, scoped}
use Rattle.qc_imp.specs.Meaning.{with_constant, for_each, collected, form, stmt, statements, imp}
use Rattle.qc_imp.specs.Sizes.{size}
use Rattle.qc_imp.specs.inner.Induction.{HeldExpr, HeldStmt, expr_ind, stmt_ind}

-- ---- sizes

-- each program has a node
pub sized : (p : Imp) → 1 ≤ size p
sized p = omega arith

-- ---- modes, by the forms

-- the outcomes at any store
abbrev AgreesR : Reading → Reading → Type 0
AgreesR p q = (st : Store) → Agrees (p st) (q st)

abbrev AgreesM : Meaning → Meaning → Type 0
AgreesM p q = (st : Store) → Agrees (p st) (q st)

agrees_scoped : (p q : Meaning) → AgreesM p q → AgreesM (scoped p) (scoped q)
unfolding scoped
agrees_scoped p q h st = agrees_then (p st) (q st) _ _ (h st) (λ t. refl)

agrees_with : (x : ℕ) (p q : Meaning) → AgreesM p q → (d : Datum) → AgreesM (with_constant x p d) (with_constant x q d)
unfolding with_constant
agrees_with x p q h d st =
    agrees_then (p ((x, Constant d) ∷ st)) (q ((x, Constant d) ∷ st)) _ _ (h ((x, Constant d) ∷ st)) (λ t. refl)

agrees_for : (f g : Datum → Meaning) → ((d : Datum) → AgreesM (f d) (g d)) → (ds : List Datum)
    → AgreesM (for_each f ds) (for_each g ds)
agrees_for f g h [] st = refl
agrees_for f g h (d ∷ ds) st = agrees_then (f d st) (g d st) _ _ (h d st) (agrees_for f g h ds)

agrees_collected : (x : ℕ) (p q : Meaning) → AgreesM p q → AgreesM (collected x p) (collected x q)
unfolding collected
agrees_collected x p q h st =
    let inner : Store = (x, Collecting []) ∷ st in
    agrees_then (scoped p inner) (scoped q inner) _ _ (agrees_scoped p q h inner) (λ t. refl)

module _ (low high : ℤ) (w : WorldOf) where
  -- ---- modes of expressions

  abbrev any_expr : ImpExpr → Reading
  any_expr e = expr any_size w e

  abbrev some_expr : ImpExpr → Reading
  some_expr e = expr (within low high) w e

  abbrev OfExpr : ImpExpr → Type 0
  OfExpr e = AgreesR (any_expr e) (some_expr e)

  expr_layer : (x : ImpExpr-F ImpExpr) → HeldExpr OfExpr x
      → AgreesR (expr_form any_size w (map-ImpExpr ImpExpr Reading any_expr x))
      (expr_form (within low high) w (map-ImpExpr ImpExpr Reading some_expr x))
  expr_layer (ImpExpr-F.Var x) h st = agrees_same (found (value_in (cell_of x st)))
  expr_layer (ImpExpr-F.Const d) h st = refl
  expr_layer (ImpExpr-F.Global name) h st = agrees_same (found (global name w.datum))
  expr_layer (ImpExpr-F.Unary op a) h st =
      agrees_then (any_expr a st) (some_expr a st) _ _ (h st) (λ v. agrees_unary low high w.classes op v)
  expr_layer (ImpExpr-F.Binary op a b) h st =
      agrees_then (any_expr a st) (some_expr a st) _ _ (h.0 st)
      (λ u. agrees_then (any_expr b st) (some_expr b st) _ _ (h.1 st) (λ v. agrees_binary low high op u v))
  expr_layer (ImpExpr-F.IsLeft a) h st =
      agrees_then (any_expr a st) (some_expr a st) _ _ (h st)
      (λ v. agrees_same (by_side (λ d. Value (Truth true)) (λ d. Value (Truth false)) v))
  expr_layer (ImpExpr-F.Payload a) h st =
      agrees_then (any_expr a st) (some_expr a st) _ _ (h st)
      (λ v. agrees_same (by_side (λ d. Value d) (λ d. Value d) v))

  of_expr : (x : ImpExpr-F ImpExpr) → HeldExpr OfExpr x → OfExpr (roll-ImpExpr x)
  of_expr x h st =
      let at_any : any_expr (roll-ImpExpr x) ≡ expr_form any_size w (map-ImpExpr ImpExpr Reading any_expr x) =
      fold-roll-ImpExpr Reading (expr_form any_size w) x in
      let at_some : some_expr (roll-ImpExpr x)
      ≡ expr_form (within low high) w (map-ImpExpr ImpExpr Reading some_expr x) =
      fold-roll-ImpExpr Reading (expr_form (within low high) w) x in
      rw (at_any, at_some) (expr_layer x h st)

  pub agrees_expr : (e : ImpExpr) → OfExpr e
  agrees_expr = expr_ind OfExpr of_expr

  -- ---- modes of statements

  abbrev any : ImpStmt → Meaning
  any s = stmt any_size w s

  abbrev some : ImpStmt → Meaning
  some s = stmt (within low high) w s

  abbrev Of : ImpStmt → Type 0
  Of s = AgreesM (any s) (some s)

  all_agree : (ss : List ImpStmt) → AllByRecursion Of ss → AgreesM (all_of (map any ss)) (all_of (map some ss))
  all_agree [] h st = refl
  all_agree (s ∷ ss) h st = agrees_then (any s st) (some s st) _ _ (h.0 st) (all_agree ss h.1)

  agrees_with_value : (e : ImpExpr) (f : Datum → Outcome Store) (st : Store)
      → Agrees (and_then (any_expr e st) f) (and_then (some_expr e st) f)
  agrees_with_value e f st =
      agrees_then (any_expr e st) (some_expr e st) f f (agrees_expr e st) (λ d. agrees_same (f d))

  layer : (x : ImpStmt-F ImpStmt) → HeldStmt Of x
      → AgreesM (form any_size w (map-ImpStmt ImpStmt Meaning any x))
      (form (within low high) w (map-ImpStmt ImpStmt Meaning some x))
  layer (ImpStmt-F.Block ss) h st =
      agrees_scoped (all_of (map any ss)) (all_of (map some ss)) (all_agree ss h) st
  layer (ImpStmt-F.Var x) h st = refl
  layer (ImpStmt-F.Val x e) h st = agrees_with_value e (λ d. Value ((x, Constant d) ∷ st)) st
  layer (ImpStmt-F.Set x e) h st = agrees_with_value e (λ d. changed (set_to d) x st) st
  layer (ImpStmt-F.Collect x ss) h st =
      agrees_collected x (all_of (map any ss)) (all_of (map some ss)) (all_agree ss h) st
  layer (ImpStmt-F.Push x e) h st = agrees_with_value e (λ d. changed (pushed_to d) x st) st
  layer (ImpStmt-F.For x e a) h st =
      agrees_then (any_expr e st) (some_expr e st) _ _ (agrees_expr e st)
      (λ v. agrees_after (as_coll v) _ _
      (λ ds. agrees_for (with_constant x (any a)) (with_constant x (some a)) (agrees_with x (any a) (some a) h) ds st))
  layer (ImpStmt-F.If e a b) h st =
      agrees_then (truth (any_expr e st)) (truth (some_expr e st)) _ _
      (agrees_truth (any_expr e st) (some_expr e st) (agrees_expr e st))
      (λ holds. agrees_choice holds (scoped (any a) st) (scoped (any b) st) (scoped (some a) st) (scoped (some b) st)
      (agrees_scoped (any a) (some a) h.0 st) (agrees_scoped (any b) (some b) h.1 st))

  of_layer : (x : ImpStmt-F ImpStmt) → HeldStmt Of x → Of (roll-ImpStmt x)
  of_layer x h st =
      let at_any : any (roll-ImpStmt x) ≡ form any_size w (map-ImpStmt ImpStmt Meaning any x) =
      fold-roll-ImpStmt Meaning (form any_size w) x in
      let at_some : some (roll-ImpStmt x) ≡ form (within low high) w (map-ImpStmt ImpStmt Meaning some x) =
      fold-roll-ImpStmt Meaning (form (within low high) w) x in
      rw (at_any, at_some) (layer x h st)

  pub agrees_stmt : (s : ImpStmt) → Of s
  agrees_stmt = stmt_ind Of of_layer

  each_agrees : (ss : List ImpStmt) → AllByRecursion Of ss
  each_agrees [] = tt
  each_agrees (s ∷ ss) = (agrees_stmt s, each_agrees ss)

  -- ---- programs

  pub agrees_imp : (p : Imp) → Agrees (imp any_size w p) (imp (within low high) w p)
  agrees_imp p =
      let ss = statements (out-ImpStmt p.body) in
      agrees_then (all_of (map any ss) []) (all_of (map some ss) []) _ _ (all_agree ss (each_agrees ss) [])
      (λ st. agrees_same (found (value_in (cell_of p.result st))))
