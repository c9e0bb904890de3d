-- Statements that fit, by their forms, and the scopes behind them.
use Rattle.std.proofs.Common.{◌≡◌, ◌∙◌, ◌≤◌, ◌-◌, ℕ, Bool, true, false, ◌&&◌, cond, IsTrue, List, [], ◌∷◌, map}
use Rattle.std.proofs.Common.{Option, Some, None, length, take, drop, get_or, refl, ap, sym, subst, arith, rules}
use Rattle.std.proofs.lemmas.List.{take_all}
use Rattle.std.specs.Prelude.{is_some, option_and_then}
use Rattle.qc_imp.specs.declared.tree.ImpStmt.{ImpStmt}
use Rattle.qc_imp.specs.declared.tree.ImpStmt.TheOpen.{ImpStmt-F}
use Rattle.qc_imp.specs.declared.tree.ImpStmt.TheVariants as tree
use Rattle.qc_imp.specs.declared.tree.ImpStmt.TheViews.{out-ImpStmt, the_lemmas}
use Rattle.qc_imp.specs.declared.tree.ImpStmt.TheFolds.{fold_out-ImpStmt, map-ImpStmt}
use Rattle.qc_imp.specs.WellFormed.{Settable, Readable, Pushable, Scope, Scoping, only, declared, all_fit}
use Rattle.qc_imp.specs.WellFormed.{class_of, fits_expr, fits_stmt, may_push, may_set, part_fits, stmt_fits}
use Rattle.qc_imp_rules.specs.inner.Scopes.{declared_by, ends, fits, form_fits, is_new, with_declared}

-- ---- tests

some_only : (b : Bool) (s : Scope) → is_some (only b s) ≡ b
some_only true s = refl
some_only false s = refl

some_behind : (b : Bool) (o : Option Scope) → is_some (cond b o None) ≡ (b && is_some o)
some_behind true o = refl
some_behind false o = refl

and_same : (a b c : Bool) → b ≡ c → (a && b) ≡ (a && c)
and_same a b c e = ap (λ (t : Bool). a && t) e

some_part : (b : Bool) (f : Scoping) (s : Scope) → is_some (option_and_then f (only b s)) ≡ (b && is_some (f s))
some_part true f s = refl
some_part false f s = refl

and_twice : (a b : Bool) → ((a && b) && a) ≡ (a && b)
and_twice true true = refl
and_twice true false = refl
and_twice false b = refl

-- whether a form has a scope behind it
form_is : (x : ImpStmt-F Scoping) (s : Scope) → is_some (stmt_fits x s) ≡ form_fits x s
form_is (ImpStmt-F.Block ss) s = some_only (is_some (all_fit ss s)) s
form_is (ImpStmt-F.Var x) s = some_only (is_new x s) ((x, Settable) ∷ s)
form_is (ImpStmt-F.Val x e) s =
    some_behind (fits_expr e s) (declared x Readable s)
    ∙ and_same (fits_expr e s) (is_some (declared x Readable s)) (is_new x s)
    (some_only (is_new x s) ((x, Readable) ∷ s))
form_is (ImpStmt-F.Set x e) s = some_only (may_set (class_of x s) && fits_expr e s) s
form_is (ImpStmt-F.Collect x ss) s =
    let inner = is_some (option_and_then (all_fit ss) (declared x Pushable s)) in
    some_behind inner (declared x Readable s)
    ∙ and_same inner (is_some (declared x Readable s)) (is_new x s) (some_only (is_new x s) ((x, Readable) ∷ s))
    ∙ ap (λ (t : Bool). t && is_new x s) (some_part (is_new x s) (all_fit ss) ((x, Pushable) ∷ s))
    ∙ and_twice (is_new x s) (is_some (all_fit ss ((x, Pushable) ∷ s)))
form_is (ImpStmt-F.Push x e) s = some_only (may_push (class_of x s) && fits_expr e s) s
form_is (ImpStmt-F.For x e a) s =
    some_only (fits_expr e s && is_some (option_and_then a (declared x Readable s))) s
    ∙ and_same (fits_expr e s) (is_some (option_and_then a (declared x Readable s)))
    (is_new x s && is_some (a ((x, Readable) ∷ s))) (some_part (is_new x s) a ((x, Readable) ∷ s))
form_is (ImpStmt-F.If e a b) s = some_only (fits_expr e s && (part_fits a s && part_fits b s)) s

at_form : (t : ImpStmt) → fits_stmt t ≡ stmt_fits (map-ImpStmt ImpStmt Scoping fits_stmt (out-ImpStmt t))
at_form t = fold_out-ImpStmt Scoping stmt_fits t

-- the same of a statement
pub fits_is : (t : ImpStmt) (s : Scope) → is_some (fits_stmt t s) ≡ fits t s
fits_is t s =
    ap (λ (p : Scoping). is_some (p s)) (at_form t) ∙ form_is (map-ImpStmt ImpStmt Scoping fits_stmt (out-ImpStmt t)) s

-- the forms that have statements
pub block_fits : (ss : List ImpStmt) (s : Scope) → fits (tree.Block ss) s ≡ is_some (all_fit (map fits_stmt ss) s)
block_fits ss s =
    let out : out-ImpStmt (tree.Block ss) ≡ ImpStmt-F.Block ss = search (rules, the_lemmas) in
    ap (λ x. form_fits (map-ImpStmt ImpStmt Scoping fits_stmt x) s) out

pub collect_fits : (x : ℕ) (ss : List ImpStmt) (s : Scope)
    → fits (tree.Collect x ss) s ≡ (is_new x s && is_some (all_fit (map fits_stmt ss) ((x, Pushable) ∷ s)))
collect_fits x ss s =
    let out : out-ImpStmt (tree.Collect x ss) ≡ ImpStmt-F.Collect x ss = search (rules, the_lemmas) in
    ap (λ y. form_fits (map-ImpStmt ImpStmt Scoping fits_stmt y) s) out

pub ruleset by_form = (fits_is, block_fits, collect_fits)

-- ---- the scope behind a statement that fits

only_true : (b : Bool) (s : Scope) → IsTrue (is_some (only b s)) → only b s ≡ Some s
only_true true s h = refl
only_true false s h = absurd (cc)

behind_true : (b c : Bool) (s : Scope) → IsTrue (is_some (cond b (only c s) None)) → cond b (only c s) None ≡ Some s
behind_true true c s h = only_true c s h
behind_true false c s h = absurd (cc)

form_behind : (x : ImpStmt-F ImpStmt) (s : Scope)
    → IsTrue (is_some (stmt_fits (map-ImpStmt ImpStmt Scoping fits_stmt x) s))
    → stmt_fits (map-ImpStmt ImpStmt Scoping fits_stmt x) s ≡ Some (with_declared (declared_by x) s)
form_behind (ImpStmt-F.Block ss) s h = only_true (is_some (all_fit (map fits_stmt ss) s)) s h
form_behind (ImpStmt-F.Var x) s h = only_true (is_new x s) ((x, Settable) ∷ s) h
form_behind (ImpStmt-F.Val x e) s h = behind_true (fits_expr e s) (is_new x s) ((x, Readable) ∷ s) h
form_behind (ImpStmt-F.Set x e) s h = only_true (may_set (class_of x s) && fits_expr e s) s h
form_behind (ImpStmt-F.Collect x ss) s h =
    behind_true (is_some (option_and_then (all_fit (map fits_stmt ss)) (declared x Pushable s))) (is_new x s)
    ((x, Readable) ∷ s) h
form_behind (ImpStmt-F.Push x e) s h = only_true (may_push (class_of x s) && fits_expr e s) s h
form_behind (ImpStmt-F.For x e a) s h =
    only_true (fits_expr e s && is_some (option_and_then (fits_stmt a) (declared x Readable s))) s h
form_behind (ImpStmt-F.If e a b) s h =
    only_true (fits_expr e s && (part_fits (fits_stmt a) s && part_fits (fits_stmt b) s)) s h

fits_behind : (t : ImpStmt) (s : Scope) → IsTrue (is_some (fits_stmt t s))
    → fits_stmt t s ≡ Some (with_declared (declared_by (out-ImpStmt t)) s)
fits_behind t s =
    let P : Scoping → Type 0 = λ p.
    IsTrue (is_some (p s)) → p s ≡ Some (with_declared (declared_by (out-ImpStmt t)) s) in
    subst P (sym (at_form t)) (form_behind (out-ImpStmt t) s)

none_is : (o : Option Scope) → is_some o ≡ false → o ≡ None
none_is None h = refl
none_is (Some s) h = absurd (cc)

none_ends : (asked : Option ℕ) → ends asked None ≡ false
none_ends None = refl
none_ends (Some x) = refl

-- ---- the first of several statements

first_apart : (ts : List ImpStmt) (t : ImpStmt) → 1 ≤ length ts → t ≡ get_or ts 0 t
    → ts ≡ t ∷ take (length ts - 1) (drop 1 ts)
first_apart [] t h e = absurd (omega (arith, h))
first_apart (u ∷ us) t h e =
    ap (λ v. v ∷ us) (sym e) ∙ ap (λ vs. t ∷ vs) (sym (take_all (length (u ∷ us) - 1) us (omega arith)))

-- where it fits, the others decide
pub first_fits : (ts : List ImpStmt) (t : ImpStmt) (s : Scope) (asked : Option ℕ) → 1 ≤ length ts → t ≡ get_or ts 0 t
    → is_some (fits_stmt t s) ≡ true
    → ends asked (all_fit (map fits_stmt (take (length ts - 1) (drop 1 ts)))
    (with_declared (declared_by (out-ImpStmt t)) s)) ≡ ends asked (all_fit (map fits_stmt ts) s)
first_fits ts t s asked some is h =
    let others = take (length ts - 1) (drop 1 ts) in
    let whole : ends asked (all_fit (map fits_stmt ts) s) ≡ ends asked (all_fit (map fits_stmt (t ∷ others)) s) =
    ap (λ (l : List ImpStmt). ends asked (all_fit (map fits_stmt l) s)) (first_apart ts t some is) in
    sym (whole ∙ ap (λ (o : Option Scope). ends asked (option_and_then (all_fit (map fits_stmt others)) o))
    (fits_behind t s h))

-- where it does not, they do not
pub first_not : (t : ImpStmt) (ts : List ImpStmt) (s : Scope) (asked : Option ℕ) → is_some (fits_stmt t s) ≡ false
    → ends asked (all_fit (map fits_stmt (t ∷ ts)) s) ≡ false
first_not t ts s asked h =
    ap (λ (o : Option Scope). ends asked (option_and_then (all_fit (map fits_stmt ts)) o))
    (none_is (fits_stmt t s) h) ∙ none_ends asked
