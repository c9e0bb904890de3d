-- Programs as a language: the JSON of a world is handed in, and the answer is the datum that the result encodes. With
-- the laws: each has a node; a value within bounds is the value at any size, and a value at any size is within bounds
-- the same or Range.
use Rattle.std.proofs.Common.{◌≡◌, ◌≤◌, ◌+◌, ℕ, ℤ, arith, true, false, List, [], ◌∷◌, map, refl}
use Rattle.std.specs.Prelude.{Bool, cond, sum}
use Rattle.std.specs.List.{AllByRecursion}
use Rattle.qc_data.specs.Decoding.{dec}
use Rattle.qc_data.specs.Encoding.{enc}
use Rattle.qc_data.specs.Kinds.{json_array}
use Rattle.qc_data.specs.Outcome.{Mode, any_size, within, Outcome, Value, and_then, Agrees}
use Rattle.qc_data.specs.declared.data.Datum.{Datum}
use Rattle.qc_data.specs.declared.data.Json.{Json}
use Rattle.qc_data.proofs.Outcomes.{agrees_same, agrees_then, agrees_after}
use Rattle.qc_ops.specs.Operands as operands
use Rattle.qc_types.specs.Schemas.{WorldOf}
use Rattle.qc_rt.proofs.Agreed.{agrees_runtime}
use Rattle.qc_js.specs.declared.tree.Expr.{Expr}
use Rattle.qc_js.specs.declared.tree.Expr.TheOpen.{Expr-F}
use Rattle.qc_js.specs.declared.tree.Expr.TheViews.{roll-Expr}
use Rattle.qc_js.specs.declared.tree.Expr.TheFolds.{fold-Expr, fold-roll-Expr, map-Expr}
use Rattle.qc_js.specs.declared.tree.Stmt.{Stmt}
use Rattle.qc_js.specs.declared.tree.Stmt.TheOpen.{Stmt-F}
use Rattle.qc_js.specs.declared.tree.Stmt.TheViews.{roll-Stmt}
use Rattle.qc_js.specs.declared.tree.Stmt.TheFolds.{fold-Stmt, fold-roll-Stmt, map-Stmt}
use Rattle.qc_js.specs.declared.tree.Program.{Program}
use Rattle.qc_js.specs.Meaning.{Constant, Collecting, Store, Reading, Meaning, value_in, cell_of, set_to, found}
use Rattle.qc_js.specs.Meaning.{pushed_to, changed, expr_form, expr, values_of, all_of, scoped, truth}
use Rattle.qc_js.specs.Meaning.{with_constant, for_each, collected, form, stmt, js}
use Rattle.qc_js_run.specs.inner.Induction.{HeldExpr, HeldStmt, expr_ind, stmt_ind}

-- the datum that the tree encodes; Stuck where there is none
abbrev pub decoded : Json → Outcome Datum
decoded j = operands.found (dec j)

-- the outcome of a program in a world
abbrev pub answer : Mode → Program → WorldOf → Outcome Datum
answer m p w = and_then (js m p (enc w.datum)) decoded

-- ---- sizes

-- an expression, by the sizes of its parts
abbrev pub expr_node : Expr-F ℕ → ℕ
expr_node (Expr-F.Array xs) = 1 + sum xs
expr_node (Expr-F.Call f xs) = 1 + sum xs
expr_node _ = 1

-- how many nodes an expression has
abbrev pub expr_size : Expr → ℕ
expr_size e = fold-Expr ℕ expr_node e

-- a statement, by the sizes of its parts
abbrev pub stmt_node : Stmt-F ℕ → ℕ
stmt_node (Stmt-F.Let x) = 1
stmt_node (Stmt-F.Set x e) = 1 + expr_size e
stmt_node (Stmt-F.Const x e) = 1 + expr_size e
stmt_node (Stmt-F.Collect x ss) = 1 + sum ss
stmt_node (Stmt-F.Push x e) = 1 + expr_size e
stmt_node (Stmt-F.For x e ss) = 1 + (expr_size e + sum ss)
stmt_node (Stmt-F.If e ss us) = 1 + (expr_size e + (sum ss + sum us))
stmt_node (Stmt-F.Block ss) = 1 + sum ss

-- how many nodes a statement has
abbrev pub stmt_size : Stmt → ℕ
stmt_size s = fold-Stmt ℕ stmt_node s

-- how many nodes a program has
abbrev pub size : Program → ℕ
size p = 1 + (sum (map stmt_size p.body) + expr_size p.result)

pub sized : (p : Program) → 1 ≤ size p
sized p = omega arith

-- ---- modes, by the forms

abbrev AgreesR : Reading → Reading → Type 0
AgreesR p q = (st : Store) → Agrees (p st) (q st)

abbrev AgreesM : Meaning → Meaning → Type 0
AgreesM p q = (st : Store) → Agrees (p st) (q st)

agrees_scoped : (ss us : List Meaning) → AgreesM (all_of ss) (all_of us) → AgreesM (scoped ss) (scoped us)
unfolding scoped
agrees_scoped ss us h st = agrees_then (all_of ss st) (all_of us st) _ _ (h st) (λ t. refl)

agrees_with : (x : ℕ) (ss us : List Meaning) → AgreesM (all_of ss) (all_of us) → (j : Json)
    → AgreesM (with_constant x ss j) (with_constant x us j)
unfolding with_constant
agrees_with x ss us h j st =
    agrees_then (all_of ss ((x, Constant j) ∷ st)) (all_of us ((x, Constant j) ∷ st)) _ _ (h ((x, Constant j) ∷ st))
    (λ t. refl)

agrees_for : (f g : Json → Meaning) → ((j : Json) → AgreesM (f j) (g j)) → (js : List Json)
    → AgreesM (for_each f js) (for_each g js)
agrees_for f g h [] st = refl
agrees_for f g h (j ∷ js) st = agrees_then (f j st) (g j st) _ _ (h j st) (agrees_for f g h js)

agrees_collected : (x : ℕ) (ss us : List Meaning) → AgreesM (all_of ss) (all_of us)
    → AgreesM (collected x ss) (collected x us)
unfolding collected
agrees_collected x ss us h st =
    let inner : Store = (x, Collecting []) ∷ st in
    agrees_then (scoped ss inner) (scoped us inner) _ _ (agrees_scoped ss us h inner) (λ t. refl)

module _ (low high : ℤ) (w : Json) where
  -- ---- modes of expressions

  abbrev any_expr : Expr → Reading
  any_expr e = expr any_size w e

  abbrev some_expr : Expr → Reading
  some_expr e = expr (within low high) w e

  abbrev OfExpr : Expr → Type 0
  OfExpr e = AgreesR (any_expr e) (some_expr e)

  values_agree : (es : List Expr) → AllByRecursion OfExpr es → (st : Store)
      → Agrees (values_of (map any_expr es) st) (values_of (map some_expr es) st)
  values_agree [] h st = refl
  values_agree (e ∷ es) h st =
      agrees_then (any_expr e st) (some_expr e st) _ _ (h.0 st)
      (λ j. agrees_then (values_of (map any_expr es) st) (values_of (map some_expr es) st) _ _ (values_agree es h.1 st)
      (λ js. refl))

  expr_layer : (x : Expr-F Expr) → HeldExpr OfExpr x
      → AgreesR (expr_form any_size w (map-Expr Expr Reading any_expr x))
      (expr_form (within low high) w (map-Expr Expr Reading some_expr x))
  expr_layer (Expr-F.Var x) h st = agrees_same (found (value_in (cell_of x st)))
  expr_layer Expr-F.World h st = refl
  expr_layer Expr-F.True h st = refl
  expr_layer Expr-F.False h st = refl
  expr_layer Expr-F.Null h st = refl
  expr_layer (Expr-F.Int n) h st = refl
  expr_layer (Expr-F.Text t) h st = refl
  expr_layer (Expr-F.Array es) h st =
      agrees_then (values_of (map any_expr es) st) (values_of (map some_expr es) st) _ _ (values_agree es h st)
      (λ js. refl)
  expr_layer (Expr-F.Call f es) h st =
      agrees_then (values_of (map any_expr es) st) (values_of (map some_expr es) st) _ _ (values_agree es h st)
      (λ js. agrees_runtime low high f js)

  of_expr : (x : Expr-F Expr) → HeldExpr OfExpr x → OfExpr (roll-Expr x)
  of_expr x h st =
      let at_any : any_expr (roll-Expr x) ≡ expr_form any_size w (map-Expr Expr Reading any_expr x) =
      fold-roll-Expr Reading (expr_form any_size w) x in
      let at_some : some_expr (roll-Expr x) ≡ expr_form (within low high) w (map-Expr Expr Reading some_expr x) =
      fold-roll-Expr Reading (expr_form (within low high) w) x in
      rw (at_any, at_some) (expr_layer x h st)

  pub agrees_expr : (e : Expr) → OfExpr e
  agrees_expr = expr_ind OfExpr of_expr

  -- ---- modes of statements

  abbrev any : Stmt → Meaning
  any s = stmt any_size w s

  abbrev some : Stmt → Meaning
  some s = stmt (within low high) w s

  abbrev Of : Stmt → Type 0
  Of s = AgreesM (any s) (some s)

  all_agree : (ss : List Stmt) → AllByRecursion Of ss → AgreesM (all_of (map any ss)) (all_of (map some ss))
  all_agree [] h st = refl
  all_agree (s ∷ ss) h st = agrees_then (any s st) (some s st) _ _ (h.0 st) (all_agree ss h.1)

  agrees_with_value : (e : Expr) (f : Json → Outcome Store) (st : Store)
      → Agrees (and_then (any_expr e st) f) (and_then (some_expr e st) f)
  agrees_with_value e f st =
      agrees_then (any_expr e st) (some_expr e st) f f (agrees_expr e st) (λ j. agrees_same (f j))

  agrees_choice : (holds : Bool) (a b c d : Outcome Store) → Agrees a c → Agrees b d
      → Agrees (cond holds a b) (cond holds c d)
  agrees_choice true a b c d h k = h
  agrees_choice false a b c d h k = k

  layer : (x : Stmt-F Stmt) → HeldStmt Of x
      → AgreesM (form any_size w (map-Stmt Stmt Meaning any x))
      (form (within low high) w (map-Stmt Stmt Meaning some x))
  layer (Stmt-F.Let x) h st = refl
  layer (Stmt-F.Set x e) h st = agrees_with_value e (λ j. changed (set_to j) x st) st
  layer (Stmt-F.Const x e) h st = agrees_with_value e (λ j. Value ((x, Constant j) ∷ st)) st
  layer (Stmt-F.Collect x ss) h st = agrees_collected x (map any ss) (map some ss) (all_agree ss h) st
  layer (Stmt-F.Push x e) h st = agrees_with_value e (λ j. changed (pushed_to j) x st) st
  layer (Stmt-F.For x e ss) h st =
      agrees_then (any_expr e st) (some_expr e st) _ _ (agrees_expr e st)
      (λ j. agrees_after (json_array j) _ _
      (λ js. agrees_for (with_constant x (map any ss)) (with_constant x (map some ss))
      (agrees_with x (map any ss) (map some ss) (all_agree ss h)) js st))
  layer (Stmt-F.If e ss us) h st =
      agrees_then (and_then (any_expr e st) truth) (and_then (some_expr e st) truth) _ _
      (agrees_then (any_expr e st) (some_expr e st) truth truth (agrees_expr e st) (λ j. agrees_same (truth j)))
      (λ holds. agrees_choice holds (scoped (map any ss) st) (scoped (map any us) st) (scoped (map some ss) st)
      (scoped (map some us) st) (agrees_scoped (map any ss) (map some ss) (all_agree ss h.0) st)
      (agrees_scoped (map any us) (map some us) (all_agree us h.1) st))
  layer (Stmt-F.Block ss) h st = agrees_scoped (map any ss) (map some ss) (all_agree ss h) st

  of_layer : (x : Stmt-F Stmt) → HeldStmt Of x → Of (roll-Stmt x)
  of_layer x h st =
      let at_any : any (roll-Stmt x) ≡ form any_size w (map-Stmt Stmt Meaning any x) =
      fold-roll-Stmt Meaning (form any_size w) x in
      let at_some : some (roll-Stmt x) ≡ form (within low high) w (map-Stmt Stmt Meaning some x) =
      fold-roll-Stmt Meaning (form (within low high) w) x in
      rw (at_any, at_some) (layer x h st)

  pub agrees_stmt : (s : Stmt) → Of s
  agrees_stmt = stmt_ind Of of_layer

  each_agrees : (ss : List Stmt) → AllByRecursion Of ss
  each_agrees [] = tt
  each_agrees (s ∷ ss) = (agrees_stmt s, each_agrees ss)

  -- ---- programs

  pub agrees_js : (p : Program) → Agrees (js any_size p w) (js (within low high) p w)
  agrees_js p =
      agrees_then (all_of (map any p.body) []) (all_of (map some p.body) []) _ _
      (all_agree p.body (each_agrees p.body) []) (λ st. agrees_expr p.result st)

pub agrees_script : (low high : ℤ) (w : WorldOf) (p : Program)
    → Agrees (answer any_size p w) (answer (within low high) p w)
agrees_script low high w p =
    agrees_then (js any_size p (enc w.datum)) (js (within low high) p (enc w.datum)) decoded decoded
    (agrees_js low high (enc w.datum) p) (λ j. agrees_same (decoded j))
