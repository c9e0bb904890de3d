-- The program for one of statements keeps its value.
use Rattle.std.proofs.Common.{◌≡◌, ℕ, ◌+◌, Bool, true, false, cond, [], ◌∷◌, map, Option, Some, None, refl, ap}
use Rattle.std.proofs.Common.{◌∙◌}
use Rattle.qc_data.specs.Kinds.{as_coll}
use Rattle.qc_data.specs.Outcome.{Mode, Outcome, Value, Halts, and_then, IsKept}
use Rattle.qc_data.specs.declared.data.Datum.{Datum}
use Rattle.qc_data.specs.declared.data.Datum.TheOpen.{Datum-F}
use Rattle.qc_data.specs.declared.data.Datum.TheViews.{out-Datum}
use Rattle.qc_data.specs.declared.data.Datum.TheVariants as datum
use Rattle.qc_data.proofs.Outcomes.{kept_same, kept_then}
use Rattle.qc_ops.specs.Operands.{as_bool, found}
use Rattle.qc_ops.specs.Sides.{side_at, by_side}
use Rattle.qc_trees.specs.Branches.{truth}
use Rattle.qc_types.specs.Schemas.{WorldOf}
use Rattle.qc_nnrs.specs.declared.tree.NnrsExpr.{NnrsExpr}
use Rattle.qc_nnrs.specs.declared.tree.NnrsStmt.{NnrsStmt}
use Rattle.qc_nnrs.specs.declared.tree.NnrsStmt.TheOpen.{NnrsStmt-F}
use Rattle.qc_nnrs.specs.declared.tree.NnrsStmt.TheViews.{roll-NnrsStmt}
use Rattle.qc_nnrs.specs.declared.tree.NnrsStmt.TheFolds.{fold-roll-NnrsStmt, map-NnrsStmt}
use Rattle.qc_nnrs.specs.declared.tree.Nnrs.{Nnrs}
use Rattle.qc_nnrs.specs.Meaning as source
use Rattle.qc_nnrs.specs.Meaning.{Reads, Sets, Pushes, Frame, Writes, class_of, written, without, last_of, set_at}
use Rattle.qc_nnrs.specs.Meaning.{push_at, reads_as, for_of, nnrs}
use Rattle.qc_nnrs.specs.inner.Induction.{HeldStmt, stmt_ind}
use Rattle.qc_imp.specs.declared.tree.ImpExpr.{ImpExpr}
use Rattle.qc_imp.specs.declared.tree.ImpExpr.TheVariants as expr
use Rattle.qc_imp.specs.declared.tree.ImpStmt.{ImpStmt}
use Rattle.qc_imp.specs.declared.tree.ImpStmt.TheOpen.{ImpStmt-F}
use Rattle.qc_imp.specs.declared.tree.ImpStmt.TheVariants as to
use Rattle.qc_imp.specs.Meaning as target
use Rattle.qc_imp.specs.Meaning.{Settable, Constant, Store, cell_of, value_in, set_to, pushed_to, changed, all_of}
use Rattle.qc_imp.specs.Meaning.{scoped, with_constant, for_each, statements, imp}
use Rattle.qc_to_imp.specs.inner.Numbering.{Numbers, number_of}
use Rattle.qc_to_imp.specs.inner.StatementTrees.{Lowering, renamed, both, assigned, collected, with_content}
use Rattle.qc_to_imp.specs.inner.StatementTrees as trees
use Rattle.qc_to_imp.specs.inner.StatementTrees.{lower_form, lower, lowered}
use Rattle.qc_to_imp.proofs.ExpressionsKept.{kept_expr, to_kept}
use Rattle.qc_to_imp.proofs.FormSteps.{seq_done, assigned_done, collected_done, choice_done, for_done}
use Rattle.qc_to_imp.proofs.Frames.{Holds, holds_none, holds_under, holds_beside}
use Rattle.qc_to_imp.proofs.ProgramForms.{of-Var, of-IsLeft, of-Payload, of-Block, of-Declared, of-Val, of-Set}
use Rattle.qc_to_imp.proofs.ProgramForms.{applied, of-Collect, of-Push, of-For, of-If, out-Block}
use Rattle.qc_to_imp.proofs.StatementSteps.{Done, Runs, First, done_to, done_then, done_scoped, body_done, value_done}
use Rattle.qc_to_imp.proofs.StatementSteps.{set_first, set_done, push_done}
use Rattle.qc_to_imp.proofs.Stores.{after, cell_here}

kept_truth : (o p : Outcome Datum) → IsKept o p → IsKept (truth o) (truth p)
unfolding truth
kept_truth o p h = kept_then o p as_bool as_bool h (λ v. kept_same (as_bool v))

as_bool-Bool : (b : Bool) → as_bool (datum.Bool b) ≡ Value b
as_bool-Bool b = rw (datum.outs-Bool b) refl

truth-Bool : (b : Bool) → truth (Value (datum.Bool b)) ≡ Value b
unfolding truth
truth-Bool b = as_bool-Bool b

module _ (m : Mode) (w : WorldOf) where
  abbrev read : ImpExpr → Store → Outcome Datum
  read e st = target.expr m w e st

  abbrev run : ImpStmt → target.Meaning
  run s = target.stmt m w s

  abbrev value : NnrsExpr → source.Reading
  value e = source.expr m w e

  abbrev means : NnrsStmt → source.Meaning
  means s = source.stmt m w s

  run-both : (a b : ImpStmt) (st : Store) → run (both a b) st ≡ scoped (all_of (run a ∷ run b ∷ [])) st
  run-both a b st = applied _ _ st (of-Block target.Meaning (target.form m w) (a ∷ b ∷ []))

  run-assigned : (n : ℕ) (a b : ImpStmt) (st : Store)
      → run (assigned n a b) st ≡ scoped (all_of (run (to.Var n) ∷ run a ∷ run b ∷ [])) st
  run-assigned n a b st = applied _ _ st (of-Block target.Meaning (target.form m w) (to.Var n ∷ a ∷ b ∷ []))

  run-Var : (n : ℕ) (st : Store) → run (to.Var n) st ≡ Value ((n, Settable None) ∷ st)
  run-Var n st = applied _ _ st (of-Declared target.Meaning (target.form m w) n)

  run-Val : (n : ℕ) (e : ImpExpr) (st : Store)
      → run (to.Val n e) st ≡ and_then (read e st) (λ d. Value ((n, Constant d) ∷ st))
  run-Val n e st = applied _ _ st (of-Val target.Meaning (target.form m w) n e)

  run-Set : (k : ℕ) (e : ImpExpr) (st : Store)
      → run (to.Set k e) st ≡ and_then (read e st) (λ d. changed (set_to d) k st)
  run-Set k e st = applied _ _ st (of-Set target.Meaning (target.form m w) k e)

  run-Push : (k : ℕ) (e : ImpExpr) (st : Store)
      → run (to.Push k e) st ≡ and_then (read e st) (λ d. changed (pushed_to d) k st)
  run-Push k e st = applied _ _ st (of-Push target.Meaning (target.form m w) k e)

  run-Collect : (n : ℕ) (a : ImpStmt) (st : Store)
      → run (to.Collect n (a ∷ [])) st ≡ target.collected n (all_of (run a ∷ [])) st
  run-Collect n a st = applied _ _ st (of-Collect target.Meaning (target.form m w) n (a ∷ []))

  run-For : (n : ℕ) (e : ImpExpr) (a : ImpStmt) (st : Store) → run (to.For n e a) st
      ≡ and_then (read e st) (λ v. and_then (as_coll v) (λ ds. for_each (with_constant n (run a)) ds st))
  run-For n e a st = applied _ _ st (of-For target.Meaning (target.form m w) n e a)

  run-If : (e : ImpExpr) (a b : ImpStmt) (st : Store) → run (to.If e a b) st
      ≡ and_then (truth (read e st)) (λ holds. cond holds (scoped (run a) st) (scoped (run b) st))
  run-If e a b st = applied _ _ st (of-If target.Meaning (target.form m w) e a b)

  -- ---- sides

  read-Var : (n : ℕ) (d : Datum) (st : Store) → read (expr.Var n) ((n, Constant d) ∷ st) ≡ Value d
  read-Var n d st =
      applied _ _ ((n, Constant d) ∷ st) (of-Var target.Reading (target.expr_form m w) n)
      ∙ ap (λ (o : Option target.Cell). found (value_in o)) (cell_here n (Constant d) st)

  read-IsLeft : (n : ℕ) (d : Datum) (st : Store) → read (expr.IsLeft (expr.Var n)) ((n, Constant d) ∷ st)
      ≡ by_side (λ e. Value (datum.Bool true)) (λ e. Value (datum.Bool false)) d
  read-IsLeft n d st =
      applied _ _ ((n, Constant d) ∷ st) (of-IsLeft target.Reading (target.expr_form m w) (expr.Var n))
      ∙ ap (λ (o : Outcome Datum). and_then o (by_side (λ e. Value (datum.Bool true)) (λ e. Value (datum.Bool false))))
      (read-Var n d st)

  read-Payload : (n : ℕ) (d : Datum) (st : Store)
      → read (expr.Payload (expr.Var n)) ((n, Constant d) ∷ st) ≡ by_side (λ e. Value e) (λ e. Value e) d
  read-Payload n d st =
      applied _ _ ((n, Constant d) ∷ st) (of-Payload target.Reading (target.expr_form m w) (expr.Var n))
      ∙ ap (λ (o : Outcome Datum). and_then o (by_side (λ e. Value e) (λ e. Value e))) (read-Var n d st)

  module _ (g : Frame) (r : Numbers) (n : ℕ) (st : Store) (h : Holds g r n st) where
    -- the value at n, and a statement with its content as n + 1
    content_done : (x : ℕ) (d c : Datum) (a : source.Meaning) (t : ImpStmt)
        → by_side (λ e. Value e) (λ e. Value e) d ≡ Value c
        → ((e : Datum) → Runs ((x, Reads (Some e)) ∷ g) ((x, n + 1) ∷ r) (n + 1 + 1) a (run t))
        → Done g r ((n, Constant d) ∷ st) (reads_as x a g c) (run (with_content n t) ((n, Constant d) ∷ st))
    content_done x d c a t is k =
        let there : Store = (n, Constant d) ∷ st in
        let beside : Holds g r (n + 1) there = holds_beside g r n st (Constant d) h in
        let content : ImpExpr = expr.Payload (expr.Var n) in
        done_to g r there (reads_as x a g c) (scoped (all_of (run (to.Val (n + 1) content) ∷ run t ∷ [])) there)
        (run (with_content n t) there) (run-both (to.Val (n + 1) content) t there)
        (value_done g r (n + 1) there (Value c) (read content there) (reads_as x a g)
        (run (to.Val (n + 1) content)) (run t) beside.below (run-Val (n + 1) content there)
        (read-Payload n d st ∙ is) (λ e. body_done g r (n + 1) there x e a (run t) beside (k e)))

    -- by the side of the value at n
    side_done : (x y : ℕ) (d : Datum) (layer : Datum-F Datum) (a b : source.Meaning) (s t : ImpStmt)
        → out-Datum d ≡ layer
        → ((e : Datum) → Runs ((x, Reads (Some e)) ∷ g) ((x, n + 1) ∷ r) (n + 1 + 1) a (run s))
        → ((e : Datum) → Runs ((y, Reads (Some e)) ∷ g) ((y, n + 1) ∷ r) (n + 1 + 1) b (run t))
        → Done g r ((n, Constant d) ∷ st) (side_at (reads_as x a g) (reads_as y b g) layer)
        (run (to.If (expr.IsLeft (expr.Var n)) (with_content n s) (with_content n t)) ((n, Constant d) ∷ st))
    unfolding scoped
    side_done x y d (Datum-F.Left c) a b s t is k l =
        let there : Store = (n, Constant d) ∷ st in
        let test : truth (read (expr.IsLeft (expr.Var n)) there) ≡ Value true =
        ap truth (read-IsLeft n d st ∙ ap (side_at (λ e. Value (datum.Bool true)) (λ e. Value (datum.Bool false))) is)
        ∙ truth-Bool true in
        let chosen : run (to.If (expr.IsLeft (expr.Var n)) (with_content n s) (with_content n t)) there
        ≡ scoped (run (with_content n s)) there =
        run-If (expr.IsLeft (expr.Var n)) (with_content n s) (with_content n t) there
        ∙ ap (λ (o : Outcome Bool). and_then o (λ holds. cond holds (scoped (run (with_content n s)) there)
        (scoped (run (with_content n t)) there))) test in
        done_to g r there (reads_as x a g c) (scoped (run (with_content n s)) there)
        (run (to.If (expr.IsLeft (expr.Var n)) (with_content n s) (with_content n t)) there) chosen
        (done_scoped g r there (reads_as x a g c) (run (with_content n s) there)
        (content_done x d c a s (ap (side_at (λ e. Value e) (λ e. Value e)) is) k))
    side_done x y d (Datum-F.Right c) a b s t is k l =
        let there : Store = (n, Constant d) ∷ st in
        let test : truth (read (expr.IsLeft (expr.Var n)) there) ≡ Value false =
        ap truth (read-IsLeft n d st ∙ ap (side_at (λ e. Value (datum.Bool true)) (λ e. Value (datum.Bool false))) is)
        ∙ truth-Bool false in
        let chosen : run (to.If (expr.IsLeft (expr.Var n)) (with_content n s) (with_content n t)) there
        ≡ scoped (run (with_content n t)) there =
        run-If (expr.IsLeft (expr.Var n)) (with_content n s) (with_content n t) there
        ∙ ap (λ (o : Outcome Bool). and_then o (λ holds. cond holds (scoped (run (with_content n s)) there)
        (scoped (run (with_content n t)) there))) test in
        done_to g r there (reads_as y b g c) (scoped (run (with_content n t)) there)
        (run (to.If (expr.IsLeft (expr.Var n)) (with_content n s) (with_content n t)) there) chosen
        (done_scoped g r there (reads_as y b g c) (run (with_content n t) there)
        (content_done y d c b t (ap (side_at (λ e. Value e) (λ e. Value e)) is) l))
    side_done x y d _ a b s t is k l = tt

  -- ---- all statements

  abbrev Of : NnrsStmt → Type 0
  Of s = (g : Frame) (r : Numbers) (n : ℕ) → Runs g r n (means s) (run (lower s r n))

  kept : (e : NnrsExpr) (g : Frame) (r : Numbers) (n : ℕ) (st : Store) → Holds g r n st
      → IsKept (value e g) (read (renamed e r) st)
  kept e g r n st h = kept_expr m w e g r st h.cells

  layer : (x : NnrsStmt-F NnrsStmt) → HeldStmt Of x → (g : Frame) (r : Numbers) (n : ℕ) (st : Store)
      → Holds g r n st → Done g r st (source.form m w (map-NnrsStmt NnrsStmt source.Meaning means x) g)
      (run (lower_form (map-NnrsStmt NnrsStmt Lowering lower x) r n) st)
  layer (NnrsStmt-F.Seq a b) k g r n st h =
      done_to g r st _ _ (run (both (lower a r n) (lower b r n)) st) (run-both (lower a r n) (lower b r n) st)
      (seq_done g r n st h (means a) (means b) (run (lower a r n)) (run (lower b r n)) (k.0 g r n) (k.1 g r n))
  layer (NnrsStmt-F.Let x e b) k g r n st h =
      let first : ImpStmt = to.Val n (renamed e r) in
      let body : ImpStmt = lower b ((x, n) ∷ r) (n + 1) in
      done_to g r st _ _ (run (both first body) st) (run-both first body st)
      (value_done g r n st (value e g) (read (renamed e r) st) (reads_as x (means b) g) (run first) (run body) h.below
      (run-Val n (renamed e r) st) (kept e g r n st h)
      (λ d. body_done g r n st x d (means b) (run body) h (k ((x, Reads (Some d)) ∷ g) ((x, n) ∷ r) (n + 1))))
  layer (NnrsStmt-F.LetMut x a b) k g r n st h =
      let part : ImpStmt = lower a ((x, n) ∷ r) (n + 1) in
      let body : ImpStmt = lower b ((x, n) ∷ r) (n + 1) in
      done_to g r st _ _ (run (assigned n part body) st) (run-assigned n part body st)
      (assigned_done g r n st h x (means a) (means b) (run (to.Var n)) (run part) (run body) (run-Var n st)
      (k.0 ((x, Sets) ∷ g) ((x, n) ∷ r) (n + 1)) (λ o. k.1 ((x, Reads o) ∷ g) ((x, n) ∷ r) (n + 1)))
  layer (NnrsStmt-F.LetColl x a b) k g r n st h =
      let part : ImpStmt = lower a ((x, n) ∷ r) (n + 1) in
      let body : ImpStmt = lower b ((x, n) ∷ r) (n + 1) in
      done_to g r st _ _ (run (collected n part body) st) (run-both (to.Collect n (part ∷ [])) body st)
      (collected_done g r n st h x (means a) (means b) (run (to.Collect n (part ∷ []))) (run part) (run body)
      (run-Collect n part st) (k.0 ((x, Pushes) ∷ g) ((x, n) ∷ r) (n + 1))
      (λ o. k.1 ((x, Reads o) ∷ g) ((x, n) ∷ r) (n + 1)))
  layer (NnrsStmt-F.Set x e) k g r n st h =
      done_to g r st _ _ (run (to.Set (number_of x r) (renamed e r)) st) (run-Set (number_of x r) (renamed e r) st)
      (done_then g r st (value e g) (read (renamed e r) st) (λ d. set_at x d (class_of x g))
      (λ d. changed (set_to d) (number_of x r) st) (kept e g r n st h) (λ d. set_done g r n st x d h))
  layer (NnrsStmt-F.Push x e) k g r n st h =
      done_to g r st _ _ (run (to.Push (number_of x r) (renamed e r)) st) (run-Push (number_of x r) (renamed e r) st)
      (done_then g r st (value e g) (read (renamed e r) st) (λ d. push_at x d (class_of x g))
      (λ d. changed (pushed_to d) (number_of x r) st) (kept e g r n st h) (λ d. push_done g r n st x d h))
  layer (NnrsStmt-F.For x e b) k g r n st h =
      let body : ImpStmt = lower b ((x, n) ∷ r) (n + 1) in
      done_to g r st _ _ (run (to.For n (renamed e r) body) st) (run-For n (renamed e r) body st)
      (done_then g r st (value e g) (read (renamed e r) st) (for_of x (means b) g)
      (λ v. and_then (as_coll v) (λ ds. for_each (with_constant n (run body)) ds st)) (kept e g r n st h)
      (λ v. for_done g r n st h x v (means b) (run body)
      (λ d. k ((x, Reads (Some d)) ∷ g) ((x, n) ∷ r) (n + 1))))
  layer (NnrsStmt-F.If e a b) k g r n st h =
      done_to g r st _ _ (run (to.If (renamed e r) (lower a r n) (lower b r n)) st)
      (run-If (renamed e r) (lower a r n) (lower b r n) st)
      (done_then g r st (truth (value e g)) (truth (read (renamed e r) st))
      (λ holds. cond holds (means a g) (means b g))
      (λ holds. cond holds (scoped (run (lower a r n)) st) (scoped (run (lower b r n)) st))
      (kept_truth (value e g) (read (renamed e r) st) (kept e g r n st h))
      (λ holds. choice_done g r n st h holds (means a) (means b) (run (lower a r n)) (run (lower b r n))
      (k.0 g r n) (k.1 g r n)))
  layer (NnrsStmt-F.Either e x a y b) k g r n st h =
      let first : ImpStmt = to.Val n (renamed e r) in
      let left : ImpStmt = lower a ((x, n + 1) ∷ r) (n + 1 + 1) in
      let right : ImpStmt = lower b ((y, n + 1) ∷ r) (n + 1 + 1) in
      let choice : ImpStmt = to.If (expr.IsLeft (expr.Var n)) (with_content n left) (with_content n right) in
      done_to g r st _ _ (run (trees.by_side n (renamed e r) left right) st) (run-both first choice st)
      (value_done g r n st (value e g) (read (renamed e r) st)
      (by_side (reads_as x (means a) g) (reads_as y (means b) g)) (run first) (run choice) h.below
      (run-Val n (renamed e r) st) (kept e g r n st h)
      (λ d. side_done g r n st h x y d (out-Datum d) (means a) (means b) left right refl
      (λ c. k.0 ((x, Reads (Some c)) ∷ g) ((x, n + 1) ∷ r) (n + 1 + 1))
      (λ c. k.1 ((y, Reads (Some c)) ∷ g) ((y, n + 1) ∷ r) (n + 1 + 1))))

  of_layer : (x : NnrsStmt-F NnrsStmt) → HeldStmt Of x → Of (roll-NnrsStmt x)
  of_layer x k g r n st h =
      let outcomes : means (roll-NnrsStmt x) ≡ source.form m w (map-NnrsStmt NnrsStmt source.Meaning means x) =
      fold-roll-NnrsStmt source.Meaning (source.form m w) x in
      let programs : lower (roll-NnrsStmt x) ≡ lower_form (map-NnrsStmt NnrsStmt Lowering lower x) =
      fold-roll-NnrsStmt Lowering lower_form x in
      rw (outcomes, programs) (layer x k g r n st h)

  pub kept_stmt : (s : NnrsStmt) → Of s
  kept_stmt = stmt_ind Of of_layer

  -- ---- programs

  -- what is returned is what the variable was set to last
  returned : (x : ℕ) (o : Outcome Writes) (p : Outcome Store)
      → First [] [] 0 [] x Sets (λ ds. Settable (last_of ds)) o p
      → IsKept (and_then o (λ ws. found (last_of (written x ws))))
      (and_then (and_then p (all_of [])) (λ st. found (value_in (cell_of 0 st))))
  returned x (Value ws) p f =
      let last : Option Datum = last_of (written x ws) in
      let answer : Store → Outcome Datum = λ st. found (value_in (cell_of 0 st)) in
      to_kept (found last) (found last) (and_then (and_then p (all_of [])) answer)
      (ap (λ (q : Outcome Store). and_then (and_then q (all_of [])) answer) f.1
      ∙ ap (λ (o : Option target.Cell). found (value_in o)) (cell_here 0 (Settable last) (after [] (without x ws) [])))
      (kept_same (found last))
  returned x (Halts why) p f = tt

  pub kept_program : (p : Nnrs) → IsKept (nnrs m w p) (imp m w (lowered p))
  kept_program p =
      let x : ℕ = p.result in
      let body : ImpStmt = lower p.body ((x, 0) ∷ []) 1 in
      let answer : Store → Outcome Datum = λ st. found (value_in (cell_of 0 st)) in
      let begun : Store = (0, Settable None) ∷ [] in
      let holds : Holds ((x, Sets) ∷ []) ((x, 0) ∷ []) 1 begun =
      holds_under [] [] 0 [] x Sets (Settable None) holds_none (None, refl) in
      let part : First [] [] 0 [] x Sets (λ ds. Settable (last_of ds)) (means p.body ((x, Sets) ∷ []))
      (run body begun) =
      set_first [] [] 0 [] x (means p.body ((x, Sets) ∷ [])) (run body begun) holds_none.below
      (kept_stmt p.body ((x, Sets) ∷ []) ((x, 0) ∷ []) 1 begun holds) in
      to_kept _ _ (imp m w (lowered p))
      (ap (λ (l : ImpStmt-F ImpStmt). and_then (all_of (map run (statements l)) []) answer)
      (out-Block (to.Var 0 ∷ body ∷ []))
      ∙ ap (λ (o : Outcome Store). and_then (and_then o (all_of (run body ∷ []))) answer) (run-Var 0 []))
      (returned x (means p.body ((x, Sets) ∷ [])) (run body begun) part)
