-- A program that meets the rules has no bare constant.
use Rattle.std.proofs.Common.{◌≡◌, List, [], ◌∷◌, ◌++◌, map, Bool, true, false, ◌&&◌, not, Option, Some, None}
use Rattle.std.proofs.Common.{if◌then◌else◌, option_and_then, refl, sym, ap, ◌∙◌, subst}
use Rattle.std.specs.List.{AllByRecursion}
use Rattle.qc_js.specs.declared.tree.Expr.{Expr}
use Rattle.qc_js.specs.declared.tree.Stmt.{Stmt}
use Rattle.qc_js.specs.declared.tree.Stmt.TheOpen.{Stmt-F}
use Rattle.qc_js.specs.declared.tree.Stmt.TheViews.{roll-Stmt}
use Rattle.qc_js.specs.declared.tree.Stmt.TheFolds.{map-Stmt, ind-Stmt, fold-roll-Stmt}
use Rattle.qc_js.specs.declared.tree.Program.{Program}
use Rattle.qc_js.specs.declared.scope.Class.TheVariants.{Readable, Pushable}
use Rattle.qc_js.specs.Held.{all_true}
use Rattle.qc_js.specs.WellFormed.{Scope, Rule, declared, all_rules, block_rule, expr_fits, is_bare}
use Rattle.qc_js.specs.WellFormed.{rule_layer}
use Rattle.qc_js.specs.WellFormed.{rule, fits_in, then_rule, well_formed}
use Rattle.qc_js.proofs.Tests.{both, both-right}
use Rattle.qc_js_text.specs.inner.Trees.{told_layer, is_told}

-- some scope comes of it
abbrev Made : Option Scope → Type 0
Made o = (s : Scope) × (o ≡ Some s)

-- what comes of two, one after the other
first_made : {A : Type 0} (o : Option A) (f : A → Option Scope) → Made (option_and_then f o)
    → (a : A) × (o ≡ Some a) × Made (f a)
first_made None f m = let n : None ≡ Some m.0 = m.1 in absurd cc
first_made (Some a) f m = (a, refl, m)

test_made : (t : Bool) (o : Option Scope) → Made (if t then o else None) → (t ≡ true) × Made o
test_made true o m = (refl, m)
test_made false o m = let n : None ≡ Some m.0 = m.1 in absurd cc

abbrev T : Stmt → Type 0
T x = (s : Scope) → Made (rule x s) → is_told x ≡ true

all_told : (xs : List Stmt) → AllByRecursion T xs → (s : Scope) → Made (all_rules (map rule xs) s)
    → all_true (map is_told xs) ≡ true
all_told [] h s m = refl
all_told (x ∷ xs) h s m =
    let r = first_made (rule x s) (λ t. all_rules (map rule xs) t) m in
    both (is_told x) (all_true (map is_told xs)) (h.0 s (r.0, r.1)) (all_told xs h.1 r.0 r.2)

block_told : (xs : List Stmt) → AllByRecursion T xs → (s : Scope) → Made (block_rule (map rule xs) s)
    → all_true (map is_told xs) ≡ true
block_told xs h s m =
    let r = first_made (all_rules (map rule xs) s) (λ t. Some s) m in all_told xs h s (r.0, r.1)

abbrev E : Type 0
E = (x : Stmt) × T x

abbrev lines : List E → List Stmt
lines ws = map (λ (w : E). w.0) ws

each : (ws : List E) → AllByRecursion T (lines ws)
each [] = tt
each (w ∷ ws) = (w.1, each ws)

layer : (w : Stmt-F E) → (s : Scope) → Made (rule_layer (map-Stmt Stmt Rule rule (map-Stmt E Stmt (λ x. x.0) w)) s)
    → told_layer (map-Stmt Stmt Bool is_told (map-Stmt E Stmt (λ x. x.0) w)) ≡ true
layer (Stmt-F.Let x) s m = refl
layer (Stmt-F.Set x e) s m = refl
layer (Stmt-F.Const x e) s m =
    both-right (expr_fits s e) (not (is_bare e))
    (test_made (expr_fits s e && not (is_bare e)) (declared x Readable s) m).0
layer (Stmt-F.Collect x ws) s m =
    let r = first_made (declared x Pushable s)
    (λ t. option_and_then (λ u. Some (s ++ (x, Readable) ∷ [])) (all_rules (map rule (lines ws)) t)) m in
    let q = first_made (all_rules (map rule (lines ws)) r.0) (λ u. Some (s ++ (x, Readable) ∷ [])) r.2 in
    all_told (lines ws) (each ws) r.0 (q.0, q.1)
layer (Stmt-F.Push x e) s m = refl
layer (Stmt-F.For x e ws) s m =
    let a = test_made (expr_fits s e) _ m in
    let r = first_made (declared x Readable s)
    (λ t. option_and_then (λ u. Some s) (all_rules (map rule (lines ws)) t)) a.1 in
    let q = first_made (all_rules (map rule (lines ws)) r.0) (λ u. Some s) r.2 in
    all_told (lines ws) (each ws) r.0 (q.0, q.1)
layer (Stmt-F.If e ws vs) s m =
    let r = first_made (then_rule e (map rule (lines ws)) s) (λ t. block_rule (map rule (lines vs)) t) m in
    let a = test_made (expr_fits s e) (block_rule (map rule (lines ws)) s) (r.0, r.1) in
    both (all_true (map is_told (lines ws))) (all_true (map is_told (lines vs)))
    (block_told (lines ws) (each ws) s a.1) (block_told (lines vs) (each vs) r.0 r.2)
layer (Stmt-F.Block ws) s m = block_told (lines ws) (each ws) s m

step : (x : Stmt-F Stmt) (w : Stmt-F E) → map-Stmt E Stmt (λ x. x.0) w ≡ x → T (roll-Stmt x)
step x w is s m =
    let t : is_told (roll-Stmt x) ≡ told_layer (map-Stmt Stmt Bool is_told x) = fold-roll-Stmt Bool told_layer x in
    let r : rule (roll-Stmt x) ≡ rule_layer (map-Stmt Stmt Rule rule x) = fold-roll-Stmt Rule rule_layer x in
    let n : Made (rule_layer (map-Stmt Stmt Rule rule (map-Stmt E Stmt (λ x. x.0) w)) s) =
    subst (λ z. Made (rule_layer (map-Stmt Stmt Rule rule z) s)) (sym is) (subst (λ f. Made (f s)) r m) in
    t ∙ ap (λ z. told_layer (map-Stmt Stmt Bool is_told z)) (sym is) ∙ layer w s n

stmt_told : (x : Stmt) → T x
stmt_told = ind-Stmt T step

all_stmts : (xs : List Stmt) → AllByRecursion T xs
all_stmts [] = tt
all_stmts (x ∷ xs) = (stmt_told x, all_stmts xs)

fits_made : (e : Expr) (o : Option Scope) → fits_in e o ≡ true → Made o
fits_made e None h = let f : false ≡ true = h in absurd cc
fits_made e (Some s) h = (s, refl)

pub program_told : (p : Program) → well_formed p ≡ true → all_true (map is_told p.body) ≡ true
program_told p h =
    all_told p.body (all_stmts p.body) [] (fits_made p.result (all_rules (map rule p.body) []) h)
