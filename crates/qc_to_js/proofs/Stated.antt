-- The statements that are made for those over data.
use Rattle.std.proofs.Common.{◌≡◌, ◌∙◌, ℕ, suc, ◌+◌, ◌-◌, Bool, true, false, cond, List, [], ◌∷◌, ◌++◌, map, length}
use Rattle.std.proofs.Common.{drop, refl, sym}
use Rattle.std.proofs.Common.{ap, subst, arith, Option, Some, None, length-drop, true≢false, rules as basic, ◌<◌, ◌≤◌}
use Rattle.std.proofs.Common.{take, get_or, add-one}
use Rattle.std.proofs.Math.Seq.{take-suc}
use Rattle.std.specs.Prelude.{◌&&◌, is_some, not, option_and_then, unwrap_or, Err, IfOk, Ok, Result}
use Rattle.std.specs.List.{AllByRecursion}
use Rattle.std.proofs.lemmas.List.{drop-drop, map-append, take_all}
use Rattle.qc_containers.specs.declared.memory.Memory.{Memory}
use Rattle.qc_containers.proofs.Truth.{and_parts}
use Rattle.qc_data.specs.Encoding.{enc, enc_step}
use Rattle.qc_data.specs.Facts.{all_true}
use Rattle.qc_data.specs.Kinds.{as_coll, coll_at, json_array}
use Rattle.qc_data.specs.Outcome.{Mode, Outcome, Value, Halts, and_then}
use Rattle.qc_data.specs.declared.data.Datum.{Datum}
use Rattle.qc_data.specs.declared.data.Datum.TheOpen.{Datum-F}
use Rattle.qc_data.specs.declared.data.Datum.TheViews.{out-Datum}
use Rattle.qc_data.specs.declared.data.Datum.TheFolds.{fold_out-Datum, map-Datum}
use Rattle.qc_data.specs.declared.data.Json.{Json}
use Rattle.qc_data.specs.declared.data.Json.TheViews.{out-Json, the_lemmas}
use Rattle.qc_data.proofs.Encoded.{json_array-enc}
use Rattle.qc_data.proofs.Outcomes.{bind_assoc}
use Rattle.qc_ops.specs.Operands.{as_bool, bool_at}
use Rattle.qc_trees.specs.Branches.{truth}
use Rattle.qc_types.specs.Classes.{Defs}
use Rattle.qc_types.specs.Schemas.{WorldOf}
use Rattle.qc_rt.specs.Laws.{plain, plain_step}
use Rattle.qc_imp.specs.declared.tree.ImpExpr.{ImpExpr}
use Rattle.qc_imp.specs.declared.tree.ImpStmt.{ImpStmt}
use Rattle.qc_imp.specs.declared.tree.ImpStmt.TheVariants as tree
use Rattle.qc_imp.specs.Meaning as imp
use Rattle.qc_imp.specs.WellFormed as rules
use Rattle.qc_js.specs.Meaning as json
use Rattle.qc_js.specs.WellFormed as scopes
use Rattle.qc_js.specs.declared.scope.Class.TheVariants as class
use Rattle.qc_js.specs.declared.tree.Expr.{Expr}
use Rattle.qc_js.specs.declared.tree.Stmt.{Stmt}
use Rattle.qc_js.specs.declared.tree.Stmt.TheVariants as js
use Rattle.qc_to_js.specs.inner.Cells.{Mirrors, PlainStore, store_json}
use Rattle.qc_to_js.specs.inner.Kept.{AreEncoded, AreStmts, Holds, IsBlock, IsExpr, IsScope, IsSetting, IsStmt, Plain}
use Rattle.qc_to_js.specs.inner.Kept.{Related}
use Rattle.qc_to_js.proofs.DataForms as forms
use Rattle.qc_to_js.proofs.Expressed.{plain_at}
use Rattle.qc_to_js.proofs.JsonForms as written
use Rattle.qc_to_js.proofs.Outcomes.{related_as, related_then, related_value}
use Rattle.qc_to_js.proofs.Scopes.{declared_scope, more_mirrors, pushes_too, sets_too}
use Rattle.qc_to_js.proofs.Stores.{newest_done_plain, newest_done_same, outer_plain, outer_same, variable_pushed}
use Rattle.qc_to_js.proofs.Stores.{variable_set}

bind_same : {A : Type 0} (o : Outcome A) → and_then o (λ a. Value a) ≡ o
bind_same (Value a) = refl
bind_same (Halts why) = refl

-- ---- the end of a block

counts : (l n k : ℕ) → n ≡ l - (l - suc k) → (l - suc k) + (n - k) ≡ l - k
counts l n k e = omega (arith, e)

counts_same : (l n k : ℕ) → n ≡ l - (l - k) → (l - k) + (n - k) ≡ l - k
counts_same l n k e = omega (arith, e)

-- a store cut to one variable more, and then to fewer, or cut twice
drop_less : {A : Type 0} (k : ℕ) (t : List A)
    → drop (length (drop (length t - suc k) t) - k) (drop (length t - suc k) t) ≡ drop (length t - k) t
drop_less k t =
    drop-drop (length (drop (length t - suc k) t) - k) (length t - suc k) t
    ∙ ap (λ (n : ℕ). drop n t) (counts (length t) (length (drop (length t - suc k) t)) k
    (length-drop (length t - suc k) t))

drop_twice : {A : Type 0} (k : ℕ) (t : List A)
    → drop (length (drop (length t - k) t) - k) (drop (length t - k) t) ≡ drop (length t - k) t
drop_twice k t =
    drop-drop (length (drop (length t - k) t) - k) (length t - k) t
    ∙ ap (λ (n : ℕ). drop n t) (counts_same (length t) (length (drop (length t - k) t)) k
    (length-drop (length t - k) t))

-- one variable more in a block, which is cut with it
cut_less : {A : Type 0} (o : Outcome (List A)) (k : ℕ)
    → and_then (and_then o (λ t. Value (drop (length t - suc k) t))) (λ t. Value (drop (length t - k) t))
    ≡ and_then o (λ t. Value (drop (length t - k) t))
cut_less (Value t) k = ap Value (drop_less k t)
cut_less (Halts why) k = refl

cut_twice : {A : Type 0} (o : Outcome (List A)) (k : ℕ)
    → and_then (and_then o (λ t. Value (drop (length t - k) t))) (λ t. Value (drop (length t - k) t))
    ≡ and_then o (λ t. Value (drop (length t - k) t))
cut_twice (Value t) k = ap Value (drop_twice k t)
cut_twice (Halts why) k = refl

data_constant : (x : ℕ) (a : imp.Meaning) (d : Datum) (st : imp.Store)
    → and_then (imp.scoped a ((x, imp.Constant d) ∷ st)) (λ t. Value (imp.outer st t)) ≡ imp.with_constant x a d st
unfolding imp.scoped imp.with_constant
data_constant x a d st = cut_less (a ((x, imp.Constant d) ∷ st)) (length st)

json_constant : (x : ℕ) (ss : List json.Meaning) (j : Json) (st : json.Store)
    → and_then (json.scoped ss ((x, json.Constant j) ∷ st)) (λ t. Value (json.outer st t))
    ≡ json.with_constant x ss j st
unfolding json.scoped json.with_constant
json_constant x ss j st = cut_less (json.all_of ss ((x, json.Constant j) ∷ st)) (length st)

-- a block alone in a block
data_twice : (a b : imp.Meaning) (st : imp.Store) → a st ≡ imp.scoped b st → imp.scoped a st ≡ imp.scoped b st
unfolding imp.scoped
data_twice a b st e = ap (λ o. and_then o (λ t. Value (imp.outer st t))) e ∙ cut_twice (b st) (length st)

scoped_related : (a : imp.Meaning) (ss : List json.Meaning) (st : imp.Store)
    → AreEncoded (a st) (json.all_of ss (store_json st)) → AreEncoded (imp.scoped a st) (json.scoped ss (store_json st))
unfolding imp.scoped json.scoped
scoped_related a ss st h =
    related_then PlainStore store_json PlainStore store_json (a st) (json.all_of ss (store_json st))
    (λ t. Value (imp.outer st t)) (λ t. Value (json.outer (store_json st) t)) h
    (λ t p. (outer_plain st t p, ap Value (outer_same st t)))

data_alone : (a : imp.Meaning) (st : imp.Store) → imp.scoped a st ≡ imp.scoped (imp.all_of (a ∷ [])) st
unfolding imp.scoped
data_alone a st = ap (λ o. and_then o (λ t. Value (imp.outer st t))) (sym (bind_same (a st)))

-- ---- options and outcomes

some_same : {A : Type 0} (a b : A) → Some a ≡ Some b → a ≡ b
some_same a b e = ap (λ o. unwrap_or o a) e

some_parts : {A : Type 0} (o : Option A) → is_some o ≡ true → (a : A) × (o ≡ Some a)
some_parts None e = absurd (true≢false (sym e))
some_parts (Some a) e = (a, refl)

option_parts : {A B : Type 0} (o : Option A) (f : A → Option B) (b : B) → option_and_then f o ≡ Some b
    → (a : A) × (o ≡ Some a) × (f a ≡ Some b)
option_parts None f b e = absurd (cc)
option_parts (Some a) f b e = (a, refl, e)

option_more : {A B C : Type 0} (o : Option A) (f : A → Option C) (g : A → Option B) (h : B → Option C)
    → ((a : A) → f a ≡ option_and_then h (g a)) → option_and_then f o ≡ option_and_then h (option_and_then g o)
option_more None f g h e = refl
option_more (Some a) f g h e = e a

only_there : (b : Bool) (s : rules.Scope) → is_some (rules.only b s) ≡ true → b ≡ true
only_there true s e = refl
only_there false s e = absurd (true≢false (sym e))

only_parts : (b : Bool) (s after : rules.Scope) → rules.only b s ≡ Some after → (b ≡ true) × (s ≡ after)
only_parts true s after e = (refl, some_same s after e)
only_parts false s after e = absurd (cc)

cond_parts : {A : Type 0} (b : Bool) (o : Option A) (a : A) → cond b o None ≡ Some a → (b ≡ true) × (o ≡ Some a)
cond_parts true o a e = (refl, e)
cond_parts false o a e = absurd (cc)

then_same : {A B : Type 0} (o : Outcome A) (f g : A → Outcome B) → ((a : A) → f a ≡ g a) → and_then o f ≡ and_then o g
then_same (Value a) f g h = h a
then_same (Halts why) f g h = refl

-- a variable that may be declared is free
free_at : (o : Option rules.Class) (x : ℕ) (c : rules.Class) (s after : rules.Scope)
    → rules.only (not (is_some o)) ((x, c) ∷ s) ≡ Some after → (o ≡ None) × ((x, c) ∷ s ≡ after)
free_at None x c s after e = (refl, some_same ((x, c) ∷ s) after e)
free_at (Some d) x c s after e = absurd (cc)

free_of : (x : ℕ) (c : rules.Class) (s after : rules.Scope) → rules.declared x c s ≡ Some after
    → (rules.class_of x s ≡ None) × ((x, c) ∷ s ≡ after)
free_of x c s after e = free_at (rules.class_of x s) x c s after e

all_plain : (ds : List Datum) → all_true (map plain ds) ≡ true → AllByRecursion Plain ds
all_plain [] h = tt
all_plain (d ∷ ds) h = let p = and_parts (plain d) (all_true (map plain ds)) h in (p.0, all_plain ds p.1)

-- ---- statements in order

data_more : (fs : List imp.Meaning) (f : imp.Meaning) (st : imp.Store)
    → imp.all_of (fs ++ f ∷ []) st ≡ and_then (imp.all_of fs st) f
data_more [] f st = bind_same (f st)
data_more (g ∷ fs) f st =
    then_same (g st) (imp.all_of (fs ++ f ∷ [])) (λ t. and_then (imp.all_of fs t) f) (data_more fs f)
    ∙ sym (bind_assoc (g st) (imp.all_of fs) f)

json_more : (fs : List json.Meaning) (f : json.Meaning) (st : json.Store)
    → json.all_of (fs ++ f ∷ []) st ≡ and_then (json.all_of fs st) f
json_more [] f st = bind_same (f st)
json_more (g ∷ fs) f st =
    then_same (g st) (json.all_of (fs ++ f ∷ [])) (λ t. and_then (json.all_of fs t) f) (json_more fs f)
    ∙ sym (bind_assoc (g st) (json.all_of fs) f)

option_value : {A : Type 0} (o : Option A) → option_and_then (λ a. Some a) o ≡ o
option_value None = refl
option_value (Some a) = refl

fits_more : (fs : List rules.Scoping) (f : rules.Scoping) (s : rules.Scope)
    → rules.all_fit (fs ++ f ∷ []) s ≡ option_and_then f (rules.all_fit fs s)
fits_more [] f s = option_value (f s)
fits_more (g ∷ fs) f s = option_more (g s) (rules.all_fit (fs ++ f ∷ [])) (rules.all_fit fs) f (fits_more fs f)

rules_more : (fs : List scopes.Rule) (f : scopes.Rule) (t : scopes.Scope)
    → scopes.all_rules (fs ++ f ∷ []) t ≡ option_and_then f (scopes.all_rules fs t)
rules_more [] f t = option_value (f t)
rules_more (g ∷ fs) f t =
    option_more (g t) (scopes.all_rules (fs ++ f ∷ [])) (scopes.all_rules fs) f (rules_more fs f)

pub no_statements : (c : Defs) → AreStmts c [] []
no_statements c = record {
  runs = λ m w st set p. related_value PlainStore store_json st p;
  ruled = λ s after t h e. (t, refl, subst (λ a. Mirrors a t) (some_same s after e) h);
}

module _ (c : Defs) (ss : List ImpStmt) (made : List Stmt) (are : AreStmts c ss made) where
  -- one statement more
  pub more_statements : (a : ImpStmt) (s : Stmt) → IsStmt c a s → AreStmts c (ss ++ a ∷ []) (made ++ s ∷ [])
  more_statements a s is = record {
    runs = λ m w st set p.
        related_as PlainStore store_json (and_then (imp.all_of (map (imp.stmt m w) ss) st) (imp.stmt m w a))
        (imp.all_of (map (imp.stmt m w) (ss ++ a ∷ [])) st)
        (and_then (json.all_of (map (json.stmt m (enc w.datum)) made) (store_json st)) (json.stmt m (enc w.datum) s))
        (json.all_of (map (json.stmt m (enc w.datum)) (made ++ s ∷ [])) (store_json st))
        (ap (λ fs. imp.all_of fs st) (map-append (imp.stmt m w) ss (a ∷ []))
        ∙ data_more (map (imp.stmt m w) ss) (imp.stmt m w a) st)
        (ap (λ fs. json.all_of fs (store_json st)) (map-append (json.stmt m (enc w.datum)) made (s ∷ []))
        ∙ json_more (map (json.stmt m (enc w.datum)) made) (json.stmt m (enc w.datum) s) (store_json st))
        (related_then PlainStore store_json PlainStore store_json (imp.all_of (map (imp.stmt m w) ss) st)
        (json.all_of (map (json.stmt m (enc w.datum)) made) (store_json st)) (imp.stmt m w a)
        (json.stmt m (enc w.datum) s) (are.runs m w st set p) (λ t q. is.runs m w t set q));
    ruled = λ s0 after t h e.
        let before : rules.all_fit (map rules.fits_stmt (ss ++ a ∷ [])) s0
        ≡ option_and_then (rules.fits_stmt a) (rules.all_fit (map rules.fits_stmt ss) s0) =
        ap (λ fs. rules.all_fit fs s0) (map-append rules.fits_stmt ss (a ∷ []))
        ∙ fits_more (map rules.fits_stmt ss) (rules.fits_stmt a) s0 in
        let behind : scopes.all_rules (map scopes.rule (made ++ s ∷ [])) t
        ≡ option_and_then (scopes.rule s) (scopes.all_rules (map scopes.rule made) t) =
        ap (λ fs. scopes.all_rules fs t) (map-append scopes.rule made (s ∷ []))
        ∙ rules_more (map scopes.rule made) (scopes.rule s) t in
        let parts =
        option_parts (rules.all_fit (map rules.fits_stmt ss) s0) (rules.fits_stmt a) after (sym before ∙ e) in
        let first = are.ruled s0 parts.0 t h parts.1 in
        subst (IsScope after) (sym (behind ∙ ap (option_and_then (scopes.rule s)) first.1))
        (is.ruled parts.0 after first.0 first.2 parts.2);
  }

  -- the block of them
  pub block_of : IsBlock c (λ m w. imp.all_of (map (imp.stmt m w) ss)) (rules.all_fit (map rules.fits_stmt ss)) made
  block_of = record {
    runs = λ m w st set p.
        scoped_related (imp.all_of (map (imp.stmt m w) ss)) (map (json.stmt m (enc w.datum)) made) st
        (are.runs m w st set p);
    ruled = λ s t h there.
        let parts = some_parts (rules.all_fit (map rules.fits_stmt ss) s) there in
        let found = are.ruled s parts.0 t h parts.1 in
        ap is_some found.1;
  }

-- ---- blocks

module _ (c : Defs) (a : ImpStmt) where
  -- of one statement that is a block
  pub part_block : (ss : List ImpStmt) (made : List Stmt) → a ≡ tree.Block ss
      → IsBlock c (λ m w. imp.all_of (map (imp.stmt m w) ss)) (rules.all_fit (map rules.fits_stmt ss)) made
      → IsBlock c (λ m w. imp.stmt m w a) (rules.fits_stmt a) made
  part_block ss made is of = rw is record {
    runs = λ m w st set p.
        subst (λ o. AreEncoded o (json.scoped (map (json.stmt m (enc w.datum)) made) (store_json st)))
        (sym (data_twice (imp.stmt m w (tree.Block ss)) (imp.all_of (map (imp.stmt m w) ss)) st
        (forms.stmt-Block m w st ss)))
        (of.runs m w st set p);
    ruled = λ s t h there.
        of.ruled s t h (only_there (is_some (rules.all_fit (map rules.fits_stmt ss) s)) s
        (sym (ap is_some (forms.fits-Block s ss)) ∙ there));
  }

  -- of one that is not
  pub part_alone : (s : Stmt) → IsStmt c a s → IsBlock c (λ m w. imp.stmt m w a) (rules.fits_stmt a) (s ∷ [])
  part_alone s is = record {
    runs = λ m w st set p.
        scoped_related (imp.stmt m w a) (json.stmt m (enc w.datum) s ∷ []) st
        (related_as PlainStore store_json (imp.stmt m w a st) (imp.stmt m w a st)
        (json.stmt m (enc w.datum) s (store_json st))
        (json.all_of (json.stmt m (enc w.datum) s ∷ []) (store_json st)) refl
        (bind_same (json.stmt m (enc w.datum) s (store_json st))) (is.runs m w st set p));
    ruled = λ s0 t h there.
        let parts = some_parts (rules.fits_stmt a s0) there in
        let found = is.ruled s0 parts.0 t h parts.1 in
        ap is_some (ap (option_and_then (scopes.all_rules [])) found.1);
  }

  -- the statement alone as a list
  pub block_alone : (made : List Stmt) → IsBlock c (λ m w. imp.stmt m w a) (rules.fits_stmt a) made
      → IsBlock c (λ m w. imp.all_of (map (imp.stmt m w) (a ∷ []))) (rules.all_fit (map rules.fits_stmt (a ∷ []))) made
  block_alone made of = record {
    runs = λ m w st set p.
        subst (λ o. AreEncoded o (json.scoped (map (json.stmt m (enc w.datum)) made) (store_json st)))
        (data_alone (imp.stmt m w a) st) (of.runs m w st set p);
    ruled = λ s t h there. of.ruled s t h (sym (ap is_some (option_value (rules.fits_stmt a s))) ∙ there);
  }

-- ---- declarations

pub let_kept : (c : Defs) (x : ℕ) → IsStmt c (tree.Var x) (js.Let x)
let_kept c x = record {
  runs = λ m w st set p.
      related_as PlainStore store_json (Value ((x, imp.Settable None) ∷ st)) (imp.stmt m w (tree.Var x) st)
      (Value ((x, json.Settable None) ∷ store_json st)) (json.stmt m (enc w.datum) (js.Let x) (store_json st))
      (forms.stmt-Var m w st x) (written.stmt-Let m (enc w.datum) (store_json st) x)
      (related_value PlainStore store_json ((x, imp.Settable None) ∷ st) (tt, p));
  ruled = λ s after t h e.
      subst (IsScope after) (sym (written.rule-Let t x))
      (declared_scope s after t x rules.Settable h (sym (forms.fits-declared s x) ∙ e));
}

module _ (c : Defs) (x : ℕ) (e : ImpExpr) (made : Expr) (of : IsExpr c e made) where
  -- what is done with the value of the expression
  with_value : (m : Mode) (w : WorldOf) (st : imp.Store) (a : ImpStmt) (s : Stmt) (f : Datum → Outcome imp.Store)
      (g : Json → Outcome json.Store) → imp.stmt m w a st ≡ and_then (imp.expr m w e st) f
      → json.stmt m (enc w.datum) s (store_json st) ≡ and_then (json.expr m (enc w.datum) made (store_json st)) g
      → IsSetting c w → PlainStore st → ((d : Datum) → Plain d → AreEncoded (f d) (g (enc d)))
      → AreEncoded (imp.stmt m w a st) (json.stmt m (enc w.datum) s (store_json st))
  with_value m w st a s f g p q set h k =
      related_as PlainStore store_json (and_then (imp.expr m w e st) f) (imp.stmt m w a st)
      (and_then (json.expr m (enc w.datum) made (store_json st)) g) (json.stmt m (enc w.datum) s (store_json st)) p q
      (related_then Plain enc PlainStore store_json (imp.expr m w e st)
      (json.expr m (enc w.datum) made (store_json st)) f g (of.values m w st set h) k)

  pub const_kept : IsStmt c (tree.Val x e) (js.Const x made)
  const_kept = record {
    runs = λ m w st set p.
        with_value m w st (tree.Val x e) (js.Const x made) (λ d. Value ((x, imp.Constant d) ∷ st))
        (λ j. Value ((x, json.Constant j) ∷ store_json st)) (forms.stmt-Val m w st x e)
        (written.stmt-Const m (enc w.datum) (store_json st) x made) set p
        (λ d is. related_value PlainStore store_json ((x, imp.Constant d) ∷ st) (is, p));
    ruled = λ s after t h fit.
        let parts =
        cond_parts (rules.fits_expr e s) (rules.declared x rules.Readable s) after (sym (forms.fits-Val s x e) ∙ fit) in
        subst (IsScope after) (sym (written.rule-Const t x made))
        (rw (of.fits s t h parts.0, of.not_bare) (declared_scope s after t x rules.Readable h parts.1));
  }

  pub set_kept : IsStmt c (tree.Set x e) (js.Set x made)
  set_kept = record {
    runs = λ m w st set p.
        with_value m w st (tree.Set x e) (js.Set x made) (λ d. imp.changed (imp.set_to d) x st)
        (λ j. json.changed (json.set_to j) x (store_json st)) (forms.stmt-Set m w st x e)
        (written.stmt-Set m (enc w.datum) (store_json st) x made) set p (λ d is. variable_set d x st is p);
    ruled = λ s after t h fit.
        let parts =
        only_parts (rules.may_set (rules.class_of x s) && rules.fits_expr e s) s after
        (sym (forms.fits-Set s x e) ∙ fit) in
        let both = and_parts (rules.may_set (rules.class_of x s)) (rules.fits_expr e s) parts.0 in
        let may : scopes.may_set (scopes.class_of x t) ≡ true =
        ap scopes.may_set (h x) ∙ sets_too (rules.class_of x s) both.0 in
        subst (IsScope after) (sym (written.rule-Set t x made))
        (rw (of.fits s t h both.1, may) (t, refl, subst (λ a. Mirrors a t) parts.1 h));
  }

  pub push_kept : IsStmt c (tree.Push x e) (js.Push x made)
  push_kept = record {
    runs = λ m w st set p.
        with_value m w st (tree.Push x e) (js.Push x made) (λ d. imp.changed (imp.pushed_to d) x st)
        (λ j. json.changed (json.pushed_to j) x (store_json st)) (forms.stmt-Push m w st x e)
        (written.stmt-Push m (enc w.datum) (store_json st) x made) set p (λ d is. variable_pushed d x st is p);
    ruled = λ s after t h fit.
        let parts =
        only_parts (rules.may_push (rules.class_of x s) && rules.fits_expr e s) s after
        (sym (forms.fits-Push s x e) ∙ fit) in
        let both = and_parts (rules.may_push (rules.class_of x s)) (rules.fits_expr e s) parts.0 in
        let may : scopes.may_push (scopes.class_of x t) ≡ true =
        ap scopes.may_push (h x) ∙ pushes_too (rules.class_of x s) both.0 in
        subst (IsScope after) (sym (written.rule-Push t x made))
        (rw (of.fits s t h both.1, may) (t, refl, subst (λ a. Mirrors a t) parts.1 h));
  }

  -- ---- for

  coll_layer : (x : Datum-F Datum) → plain_step (map-Datum Datum Bool plain x) ≡ true
      → Holds (AllByRecursion Plain) (coll_at x)
  coll_layer (Datum-F.Coll ds) h = all_plain ds h
  coll_layer Datum-F.Unit h = tt
  coll_layer (Datum-F.Bool b) h = tt
  coll_layer (Datum-F.Int n) h = tt
  coll_layer (Datum-F.Text s) h = tt
  coll_layer (Datum-F.Rec ps) h = tt
  coll_layer (Datum-F.Left d) h = tt
  coll_layer (Datum-F.Right d) h = tt
  coll_layer (Datum-F.Brand n d) h = tt

  members_related : (d : Datum) → Plain d → Related (AllByRecursion Plain) (map enc) (as_coll d) (json_array (enc d))
  members_related d h = (coll_layer (out-Datum d) (plain_at d h), json_array-enc d)

  module _ (f : Datum → imp.Meaning) (g : Json → json.Meaning)
      (each : (d : Datum) → Plain d → (st : imp.Store) → PlainStore st
      → AreEncoded (f d st) (g (enc d) (store_json st))) where
    for_related : (ds : List Datum) → AllByRecursion Plain ds → (st : imp.Store) → PlainStore st
        → AreEncoded (imp.for_each f ds st) (json.for_each g (map enc ds) (store_json st))
    for_related [] h st p = related_value PlainStore store_json st p
    for_related (d ∷ ds) h st p =
        related_then PlainStore store_json PlainStore store_json (f d st) (g (enc d) (store_json st))
        (imp.for_each f ds)
        (json.for_each g (map enc ds)) (each d h.0 st p) (λ t q. for_related ds h.1 t q)

  module _ (a : ImpStmt) (body : List Stmt) (block : IsBlock c (λ m w. imp.stmt m w a) (rules.fits_stmt a) body) where
    turn_related : (m : Mode) (w : WorldOf) → IsSetting c w → (d : Datum) → Plain d → (st : imp.Store) → PlainStore st
        → AreEncoded (imp.with_constant x (imp.stmt m w a) d st)
        (json.with_constant x (map (json.stmt m (enc w.datum)) body) (enc d) (store_json st))
    turn_related m w set d h st p =
        related_as PlainStore store_json
        (and_then (imp.scoped (imp.stmt m w a) ((x, imp.Constant d) ∷ st)) (λ t. Value (imp.outer st t)))
        (imp.with_constant x (imp.stmt m w a) d st)
        (and_then (json.scoped (map (json.stmt m (enc w.datum)) body) ((x, json.Constant (enc d)) ∷ store_json st))
        (λ t. Value (json.outer (store_json st) t)))
        (json.with_constant x (map (json.stmt m (enc w.datum)) body) (enc d) (store_json st))
        (sym (data_constant x (imp.stmt m w a) d st))
        (sym (json_constant x (map (json.stmt m (enc w.datum)) body) (enc d) (store_json st)))
        (related_then PlainStore store_json PlainStore store_json
        (imp.scoped (imp.stmt m w a) ((x, imp.Constant d) ∷ st))
        (json.scoped (map (json.stmt m (enc w.datum)) body) ((x, json.Constant (enc d)) ∷ store_json st))
        (λ t. Value (imp.outer st t)) (λ t. Value (json.outer (store_json st) t))
        (block.runs m w ((x, imp.Constant d) ∷ st) set (h, p))
        (λ t q. (outer_plain st t q, ap Value (outer_same st t))))

    pub for_kept : IsStmt c (tree.For x e a) (js.For x made body)
    for_kept = record {
      runs = λ m w st set p.
          with_value m w st (tree.For x e a) (js.For x made body)
          (λ v. and_then (as_coll v) (λ ds. imp.for_each (imp.with_constant x (imp.stmt m w a)) ds st))
          (λ j. and_then (json_array j)
          (λ js. json.for_each (json.with_constant x (map (json.stmt m (enc w.datum)) body)) js (store_json st)))
          (forms.stmt-For m w st x e a) (written.stmt-For m (enc w.datum) (store_json st) x made body) set p
          (λ d is. related_then (AllByRecursion Plain) (map enc) PlainStore store_json (as_coll d) (json_array (enc d))
          (λ ds. imp.for_each (imp.with_constant x (imp.stmt m w a)) ds st)
          (λ js. json.for_each (json.with_constant x (map (json.stmt m (enc w.datum)) body)) js (store_json st))
          (members_related d is)
          (λ ds all. for_related (imp.with_constant x (imp.stmt m w a))
          (json.with_constant x (map (json.stmt m (enc w.datum)) body)) (turn_related m w set) ds all st p));
      ruled = λ s after t h fit.
          let parts =
          only_parts (rules.fits_expr e s
          && is_some (option_and_then (rules.fits_stmt a) (rules.declared x rules.Readable s)))
          s after (sym (forms.fits-For s x e a) ∙ fit) in
          let both = and_parts (rules.fits_expr e s)
          (is_some (option_and_then (rules.fits_stmt a) (rules.declared x rules.Readable s))) parts.0 in
          let there = some_parts (option_and_then (rules.fits_stmt a) (rules.declared x rules.Readable s)) both.1 in
          let inner = option_parts (rules.declared x rules.Readable s) (rules.fits_stmt a) there.0 there.1 in
          let scope = declared_scope s inner.0 t x rules.Readable h inner.1 in
          let good : is_some (scopes.all_rules (map scopes.rule body) scope.0) ≡ true =
          block.ruled inner.0 scope.0 scope.2 (ap is_some inner.2) in
          let last = some_parts (scopes.all_rules (map scopes.rule body) scope.0) good in
          subst (IsScope after) (sym (written.rule-For t x made body))
          (rw (of.fits s t h both.0, scope.1, last.1) (t, refl, subst (λ a. Mirrors a t) parts.1 h));
    }

-- ---- collect, if and blocks

module _ (c : Defs) (ss : List ImpStmt) (made : List Stmt)
    (of : IsBlock c (λ m w. imp.all_of (map (imp.stmt m w) ss)) (rules.all_fit (map rules.fits_stmt ss)) made) where
  pub blocked : IsStmt c (tree.Block ss) (js.Block made)
  blocked = record {
    runs = λ m w st set p.
        related_as PlainStore store_json (imp.scoped (imp.all_of (map (imp.stmt m w) ss)) st)
        (imp.stmt m w (tree.Block ss) st) (json.scoped (map (json.stmt m (enc w.datum)) made) (store_json st))
        (json.stmt m (enc w.datum) (js.Block made) (store_json st)) (forms.stmt-Block m w st ss)
        (written.stmt-Block m (enc w.datum) (store_json st) made) (of.runs m w st set p);
    ruled = λ s after t h fit.
        let parts =
        only_parts (is_some (rules.all_fit (map rules.fits_stmt ss) s)) s after (sym (forms.fits-Block s ss) ∙ fit) in
        let last = some_parts (scopes.all_rules (map scopes.rule made) t) (of.ruled s t h parts.0) in
        subst (IsScope after) (sym (written.rule-Block t made))
        (rw (last.1) (t, refl, subst (λ a. Mirrors a t) parts.1 h));
  }

  data_collected : (x : ℕ) (m : Mode) (w : WorldOf) (st : imp.Store) → IsSetting c w → PlainStore st
      → AreEncoded (imp.collected x (imp.all_of (map (imp.stmt m w) ss)) st)
      (json.collected x (map (json.stmt m (enc w.datum)) made) (store_json st))
  unfolding imp.collected json.collected
  data_collected x m w st set p =
      related_then PlainStore store_json PlainStore store_json
      (imp.scoped (imp.all_of (map (imp.stmt m w) ss)) ((x, imp.Collecting []) ∷ st))
      (json.scoped (map (json.stmt m (enc w.datum)) made) ((x, json.Collecting []) ∷ store_json st))
      (λ t. Value (imp.newest_done t)) (λ t. Value (json.newest_done t))
      (of.runs m w ((x, imp.Collecting []) ∷ st) set (tt, p))
      (λ t q. (newest_done_plain t q, ap Value (newest_done_same t)))

  pub collect_kept : (x : ℕ) → IsStmt c (tree.Collect x ss) (js.Collect x made)
  collect_kept x = record {
    runs = λ m w st set p.
        related_as PlainStore store_json (imp.collected x (imp.all_of (map (imp.stmt m w) ss)) st)
        (imp.stmt m w (tree.Collect x ss) st) (json.collected x (map (json.stmt m (enc w.datum)) made) (store_json st))
        (json.stmt m (enc w.datum) (js.Collect x made) (store_json st)) (forms.stmt-Collect m w st x ss)
        (written.stmt-Collect m (enc w.datum) (store_json st) x made) (data_collected x m w st set p);
    ruled = λ s after t h fit.
        let parts = cond_parts
        (is_some (option_and_then (rules.all_fit (map rules.fits_stmt ss)) (rules.declared x rules.Pushable s)))
        (rules.declared x rules.Readable s) after (sym (forms.fits-Collect s x ss) ∙ fit) in
        let free = free_of x rules.Readable s after parts.1 in
        let there =
        some_parts (option_and_then (rules.all_fit (map rules.fits_stmt ss)) (rules.declared x rules.Pushable s))
        parts.0 in
        let inner =
        option_parts (rules.declared x rules.Pushable s) (rules.all_fit (map rules.fits_stmt ss)) there.0 there.1 in
        let scope = declared_scope s inner.0 t x rules.Pushable h inner.1 in
        let good : is_some (scopes.all_rules (map scopes.rule made) scope.0) ≡ true =
        of.ruled inner.0 scope.0 scope.2 (ap is_some inner.2) in
        let last = some_parts (scopes.all_rules (map scopes.rule made) scope.0) good in
        subst (IsScope after) (sym (written.rule-Collect t x made))
        (rw (scope.1, last.1) (
          t ++ (x, class.Readable)
              ∷ [],
          refl,
          subst (λ a. Mirrors a (t ++ (x, class.Readable) ∷ []))
              free.1 (more_mirrors s t h x rules.Readable free.0),
        ));
  }

-- the truth value of a condition
truth_at-enc : (x : Datum-F Datum) → json.truth_at (out-Json (enc_step (map-Datum Datum Json enc x))) ≡ bool_at x
truth_at-enc Datum-F.Unit = search (basic, the_lemmas)
truth_at-enc (Datum-F.Bool b) = search (basic, the_lemmas)
truth_at-enc (Datum-F.Int n) = search (basic, the_lemmas)
truth_at-enc (Datum-F.Text s) = search (basic, the_lemmas)
truth_at-enc (Datum-F.Coll xs) = search (basic, the_lemmas)
truth_at-enc (Datum-F.Rec fs) = search (basic, the_lemmas)
truth_at-enc (Datum-F.Left d) = search (basic, the_lemmas)
truth_at-enc (Datum-F.Right d) = search (basic, the_lemmas)
truth_at-enc (Datum-F.Brand n d) = search (basic, the_lemmas)

truth-enc : (d : Datum) → json.truth (enc d) ≡ as_bool d
truth-enc d = rw (fold_out-Datum Json enc_step d) (truth_at-enc (out-Datum d))

any_holds : (o : Outcome Bool) → Holds (λ b. Unit {0}) o
any_holds (Value b) = tt
any_holds (Halts why) = tt

abbrev Any : Bool → Type 0
Any b = Unit {0}

-- a condition that decides on both sides
condition_related : (o : Outcome Datum) (p : Outcome Json) → Related Plain enc o p
    → Related Any (λ b. b) (truth o) (and_then p json.truth)
unfolding truth
condition_related (Value d) p h =
    let same : and_then p json.truth ≡ as_bool d = ap (λ q. and_then q json.truth) h.1 ∙ truth-enc d in
    rw same (any_holds (as_bool d), sym (bind_same (as_bool d)))
condition_related (Halts why) p h = rw (h.1) (tt, refl)

module _ (c : Defs) (e : ImpExpr) (made : Expr) (of : IsExpr c e made) (a b : ImpStmt) (first second : List Stmt)
    (one : IsBlock c (λ m w. imp.stmt m w a) (rules.fits_stmt a) first)
    (other : IsBlock c (λ m w. imp.stmt m w b) (rules.fits_stmt b) second) where
  branch_related : (m : Mode) (w : WorldOf) (st : imp.Store) → IsSetting c w → PlainStore st → (holds : Bool)
      → AreEncoded (cond holds (imp.scoped (imp.stmt m w a) st) (imp.scoped (imp.stmt m w b) st))
      (cond holds (json.scoped (map (json.stmt m (enc w.datum)) first) (store_json st))
      (json.scoped (map (json.stmt m (enc w.datum)) second) (store_json st)))
  branch_related m w st set p true = one.runs m w st set p
  branch_related m w st set p false = other.runs m w st set p

  pub if_kept : IsStmt c (tree.If e a b) (js.If made first second)
  if_kept = record {
    runs = λ m w st set p.
        related_as PlainStore store_json
        (and_then (truth (imp.expr m w e st))
        (λ holds. cond holds (imp.scoped (imp.stmt m w a) st) (imp.scoped (imp.stmt m w b) st)))
        (imp.stmt m w (tree.If e a b) st)
        (and_then (and_then (json.expr m (enc w.datum) made (store_json st)) json.truth)
        (λ holds. cond holds (json.scoped (map (json.stmt m (enc w.datum)) first) (store_json st))
        (json.scoped (map (json.stmt m (enc w.datum)) second) (store_json st))))
        (json.stmt m (enc w.datum) (js.If made first second) (store_json st)) (forms.stmt-If m w st e a b)
        (written.stmt-If m (enc w.datum) (store_json st) made first second)
        (related_then Any (λ b. b) PlainStore store_json (truth (imp.expr m w e st))
        (and_then (json.expr m (enc w.datum) made (store_json st)) json.truth)
        (λ holds. cond holds (imp.scoped (imp.stmt m w a) st) (imp.scoped (imp.stmt m w b) st))
        (λ holds. cond holds (json.scoped (map (json.stmt m (enc w.datum)) first) (store_json st))
        (json.scoped (map (json.stmt m (enc w.datum)) second) (store_json st)))
        (condition_related (imp.expr m w e st) (json.expr m (enc w.datum) made (store_json st))
        (of.values m w st set p))
        (λ holds u. branch_related m w st set p holds));
    ruled = λ s after t h fit.
        let parts =
        only_parts (rules.fits_expr e s && (rules.part_fits (rules.fits_stmt a) s
        && rules.part_fits (rules.fits_stmt b) s))
        s after (sym (forms.fits-If s e a b) ∙ fit) in
        let three = and_parts (rules.fits_expr e s)
        (rules.part_fits (rules.fits_stmt a) s && rules.part_fits (rules.fits_stmt b) s) parts.0 in
        let both = and_parts (rules.part_fits (rules.fits_stmt a) s) (rules.part_fits (rules.fits_stmt b) s) three.1 in
        let then_there = some_parts (scopes.all_rules (map scopes.rule first) t) (one.ruled s t h both.0) in
        let else_there = some_parts (scopes.all_rules (map scopes.rule second) t) (other.ruled s t h both.1) in
        subst (IsScope after) (sym (written.rule-If t made first second))
        (rw (of.fits s t h three.0, then_there.1, else_there.1) (t, refl, subst (λ a. Mirrors a t) parts.1 h));
  }

-- ---- what calls answer

-- the same of what is the same
pub expr_as : (c : Defs) (e f : ImpExpr) (made : Expr) → f ≡ e → IsExpr c f made → IsExpr c e made
expr_as c e f made same h = subst (λ x. IsExpr c x made) same h

pub part_as : (c : Defs) (a b : ImpStmt) (made : List Stmt) → b ≡ a
    → IsBlock c (λ m w. imp.stmt m w b) (rules.fits_stmt b) made
    → IsBlock c (λ m w. imp.stmt m w a) (rules.fits_stmt a) made
part_as c a b made same h = subst (λ x. IsBlock c (λ m w. imp.stmt m w x) (rules.fits_stmt x) made) same h

abbrev IsBlockOf : Defs → List Stmt → List ImpStmt → Type 0
IsBlockOf c made ss =
    IsBlock c (λ m w. imp.all_of (map (imp.stmt m w) ss)) (rules.all_fit (map rules.fits_stmt ss)) made

pub block_as : (c : Defs) (ss us : List ImpStmt) (made : List Stmt) → us ≡ ss → IsBlockOf c made us
    → IsBlockOf c made ss
block_as c ss us made same h = subst (IsBlockOf c made) same h

-- the next statement of a list
pub next_statement : (c : Defs) (all : List ImpStmt) (i : ℕ) (a : ImpStmt) (made next : List Stmt) (s : Stmt)
    → AreStmts c (take i all) made → i < length all → a ≡ get_or all i a → IsStmt c a s → next ≡ made ++ s ∷ []
    → AreStmts c (take (i + 1) all) next
next_statement c all i a made next s are lt at is e =
    let ahead : take (i + 1) all ≡ take i all ++ a ∷ [] =
    ap (λ k. take k all) (add-one i) ∙ take-suc all i a lt ∙ ap (λ x. take i all ++ x ∷ []) (sym at) in
    rw (ahead, e) (more_statements c (take i all) made are a s is)

pub all_statements : (c : Defs) (all : List ImpStmt) (i : ℕ) (made : List Stmt) → AreStmts c (take i all) made
    → length all ≤ i → AreStmts c all made
all_statements c all i made are le = subst (λ ss. AreStmts c ss made) (take_all i all le) are

-- the block of one statement, of statements in order, and of a statement that is a block
pub block_of_one : (c : Defs) (all : List ImpStmt) (a : ImpStmt) (r : Result (List Stmt) Memory) → all ≡ a ∷ []
    → IfOk r (λ made. IsBlock c (λ m w. imp.stmt m w a) (rules.fits_stmt a) made)
    → IfOk r (λ made. IsBlockOf c made all)
block_of_one c all a (Ok made) is h = rw is (block_alone c a made h)
block_of_one c all a (Err e) is h = tt

pub block_of_all : (c : Defs) (all : List ImpStmt) (r : Result (List Stmt) Memory)
    → IfOk r (λ made. AreStmts c all made) → IfOk r (λ made. IsBlockOf c made all)
block_of_all c all (Ok made) h = block_of c all made h
block_of_all c all (Err e) h = tt

pub part_of_block : (c : Defs) (a : ImpStmt) (ss us : List ImpStmt) (r : Result (List Stmt) Memory) → a ≡ tree.Block ss
    → us ≡ ss → IfOk r (λ made. IsBlockOf c made us)
    → IfOk r (λ made. IsBlock c (λ m w. imp.stmt m w a) (rules.fits_stmt a) made)
part_of_block c a ss us (Ok made) is same h = part_block c a ss made is (block_as c ss us made same h)
part_of_block c a ss us (Err e) is same h = tt

pub only_one : (all : List ImpStmt) (a : ImpStmt) → 1 ≤ length all → length all < 2 → a ≡ get_or all 0 a → all ≡ a ∷ []
only_one [] a more less at = absurd (omega (arith, more))
only_one (b ∷ []) a more less at = ap (λ x. x ∷ []) (sym at)
only_one (b ∷ x ∷ all) a more less at = absurd (omega (arith, less))
