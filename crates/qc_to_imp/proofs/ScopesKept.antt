-- The program for a well-formed one of statements is well formed.
use Rattle.std.proofs.Common.{◌≡◌, ◌==◌, ◌<◌, ◌≤◌, ℕ, ◌+◌, Bool, true, false, cond, [], ◌∷◌, Option, Some}
use Rattle.std.proofs.Common.{None, IsTrue, refl, sym, ap, ◌∙◌, subst, arith}
use Rattle.std.specs.Prelude.{◌&&◌, not, is_some, option_and_then}
use Rattle.std.proofs.lemmas.Bool.Decides.{nat_tests}
use Rattle.qc_types.proofs.RowLaws.{and_parts, both as both_true}
use Rattle.qc_nnrs.specs.declared.tree.NnrsExpr.{NnrsExpr}
use Rattle.qc_nnrs.specs.declared.tree.NnrsExpr.TheOpen.{NnrsExpr-F}
use Rattle.qc_nnrs.specs.declared.tree.NnrsExpr.TheViews.{roll-NnrsExpr}
use Rattle.qc_nnrs.specs.declared.tree.NnrsExpr.TheFolds.{fold-roll-NnrsExpr, map-NnrsExpr}
use Rattle.qc_nnrs.specs.declared.tree.NnrsStmt.{NnrsStmt}
use Rattle.qc_nnrs.specs.declared.tree.NnrsStmt.TheOpen.{NnrsStmt-F}
use Rattle.qc_nnrs.specs.declared.tree.NnrsStmt.TheViews.{roll-NnrsStmt}
use Rattle.qc_nnrs.specs.declared.tree.NnrsStmt.TheFolds.{fold-roll-NnrsStmt, map-NnrsStmt}
use Rattle.qc_nnrs.specs.declared.tree.Nnrs.{Nnrs}
use Rattle.qc_nnrs.specs.Meaning.{Class, Reads, Sets, Pushes, Frame, class_of}
use Rattle.qc_nnrs.specs.WellFormed as source
use Rattle.qc_nnrs.specs.WellFormed.{is_read, is_set, is_pushed, read_only}
use Rattle.qc_nnrs.specs.inner.Induction.{HeldExpr, expr_ind, HeldStmt, stmt_ind}
use Rattle.qc_imp.specs.declared.tree.ImpExpr.{ImpExpr}
use Rattle.qc_imp.specs.declared.tree.ImpExpr.TheVariants as expr
use Rattle.qc_imp.specs.declared.tree.ImpStmt.{ImpStmt}
use Rattle.qc_imp.specs.declared.tree.ImpStmt.TheOpen.{ImpStmt-F}
use Rattle.qc_imp.specs.declared.tree.ImpStmt.TheVariants as to
use Rattle.qc_imp.specs.WellFormed as target
use Rattle.qc_imp.specs.WellFormed.{Settable, Readable, Pushable, Scope, Scoping, may_read, may_set, may_push, only}
use Rattle.qc_imp.specs.WellFormed.{declared, all_fit, scope_at, result_fits, expr_fits, stmt_fits}
use Rattle.qc_to_imp.specs.inner.Numbering.{Numbers, number_of}
use Rattle.qc_to_imp.specs.inner.StatementTrees.{Renaming, expr_form, renamed, Lowering, both, assigned}
use Rattle.qc_to_imp.specs.inner.StatementTrees.{with_content, by_side, lower_form, lower, lowered}
use Rattle.qc_to_imp.proofs.Frames.{IsBound, below_under}
use Rattle.qc_to_imp.proofs.ProgramForms.{of-Var, of-Const, of-Global, of-Unary, of-Binary, of-IsLeft, of-Payload}
use Rattle.qc_to_imp.proofs.ProgramForms.{of-Block, of-Declared, of-Val, of-Set, of-Collect, of-Push, of-For, of-If}
use Rattle.qc_to_imp.proofs.ProgramForms.{applied, out-Block}
use Rattle.qc_to_imp.proofs.Stores.{same_number, other_number}

-- ---- scopes

-- a variable may be used as a class says
abbrev Fits : Option Class → Option target.Class → Type 0
Fits None c = Unit {0}
Fits (Some (Reads o)) c = IsTrue (may_read c)
Fits (Some Sets) c = IsTrue (may_set c)
Fits (Some Pushes) c = IsTrue (may_push c)

-- the variables may be used as their classes say; the numbers are below n, and no greater one is in scope
record Allows (g : Frame) (r : Numbers) (n : ℕ) (s : Scope) : Type 0 where
  classes : (x : ℕ) → Fits (class_of x g) (target.class_of (number_of x r) s)
  below : (x : ℕ) → IsBound (class_of x g) → number_of x r < n
  fresh : (k : ℕ) → n ≤ k → target.class_of k s ≡ None

greater_number : (k n : ℕ) → n + 1 ≤ k → (n == k) ≡ false
greater_number k n le = grind (arith, nat_tests)

class_here : (n : ℕ) (c : target.Class) (s : Scope) → target.class_of n ((n, c) ∷ s) ≡ Some c
class_here n c s = ap (λ (t : Bool). cond t (Some c) (target.class_of n s)) (same_number n)

class_there : (k n : ℕ) (c : target.Class) (s : Scope) → k < n
    → target.class_of k ((n, c) ∷ s) ≡ target.class_of k s
class_there k n c s lt = ap (λ (t : Bool). cond t (Some c) (target.class_of k s)) (other_number k n lt)

fresh_beside : (k n : ℕ) (c : target.Class) (s : Scope) → n + 1 ≤ k → target.class_of k s ≡ None
    → target.class_of k ((n, c) ∷ s) ≡ None
fresh_beside k n c s le e = ap (λ (t : Bool). cond t (Some c) (target.class_of k s)) (greater_number k n le) ∙ e

fits_beside : (o : Option Class) (k n : ℕ) (c : target.Class) (s : Scope) → (IsBound o → k < n)
    → Fits o (target.class_of k s) → Fits o (target.class_of k ((n, c) ∷ s))
fits_beside None k n c s lt h = tt
fits_beside (Some class) k n c s lt h = subst (Fits (Some class)) (sym (class_there k n c s (lt tt))) h

classes_under : (t : Bool) (class : Class) (o : Option Class) (k n : ℕ) (c : target.Class) (s : Scope)
    → (IsBound o → k < n) → Fits (Some class) (Some c) → Fits o (target.class_of k s)
    → Fits (cond t (Some class) o) (target.class_of (cond t n k) ((n, c) ∷ s))
classes_under true class o k n c s lt f h = subst (Fits (Some class)) (sym (class_here n c s)) f
classes_under false class o k n c s lt f h = fits_beside o k n c s lt h

allows_none : Allows [] [] 0 []
allows_none = record { classes = λ x. tt; below = λ x b. absurd b; fresh = λ k le. refl }

-- a binder of x as n
allows_under : (g : Frame) (r : Numbers) (n : ℕ) (s : Scope) (x : ℕ) (class : Class) (c : target.Class)
    → Allows g r n s → Fits (Some class) (Some c) → Allows ((x, class) ∷ g) ((x, n) ∷ r) (n + 1) ((n, c) ∷ s)
allows_under g r n s x class c h f = record {
  classes = λ y. classes_under (x == y) class (class_of y g) (number_of y r) n c s (h.below y) f (h.classes y);
  below = λ y. below_under (x == y) class (class_of y g) (number_of y r) n (h.below y);
  fresh = λ k le. let less : n ≤ k = omega arith in fresh_beside k n c s le (h.fresh k less);
}

-- a number that no variable has
allows_beside : (g : Frame) (r : Numbers) (n : ℕ) (s : Scope) (c : target.Class) → Allows g r n s
    → Allows g r (n + 1) ((n, c) ∷ s)
allows_beside g r n s c h = record {
  classes = λ x. fits_beside (class_of x g) (number_of x r) n c s (h.below x) (h.classes x);
  below = λ x b. let small : number_of x r < n = h.below x b in omega arith;
  fresh = λ k le. let less : n ≤ k = omega arith in fresh_beside k n c s le (h.fresh k less);
}

-- ---- expressions

abbrev reads : ImpExpr → Scope → Bool
reads e s = target.fits_expr e s

read_fits : (o : Option Class) (c : Option target.Class) → Fits o c → IsTrue (is_read o) → IsTrue (may_read c)
read_fits (Some (Reads v)) c h i = h
read_fits (Some Sets) c h i = absurd (cc)
read_fits (Some Pushes) c h i = absurd (cc)
read_fits None c h i = absurd (cc)

reads-Var : (n : ℕ) (s : Scope) → reads (expr.Var n) s ≡ may_read (target.class_of n s)
reads-Var n s = applied _ _ s (of-Var (Scope → Bool) expr_fits n)

abbrev OfExpr : NnrsExpr → Type 0
OfExpr e = (g : Frame) (r : Numbers) (n : ℕ) (s : Scope) → Allows g r n s → IsTrue (source.fits_expr e g)
    → IsTrue (reads (renamed e r) s)

expr_layer : (x : NnrsExpr-F NnrsExpr) → HeldExpr OfExpr x → (g : Frame) (r : Numbers) (n : ℕ) (s : Scope)
    → Allows g r n s → IsTrue (source.expr_fits (map-NnrsExpr NnrsExpr (source.Scope → Bool) source.fits_expr x) g)
    → IsTrue (reads (expr_form (map-NnrsExpr NnrsExpr Renaming renamed x) r) s)
expr_layer (NnrsExpr-F.Var x) k g r n s h i =
    reads-Var (number_of x r) s ∙ read_fits (class_of x g) (target.class_of (number_of x r) s) (h.classes x) i
expr_layer (NnrsExpr-F.Const d) k g r n s h i = applied _ _ s (of-Const (Scope → Bool) expr_fits d)
expr_layer (NnrsExpr-F.Global name) k g r n s h i = applied _ _ s (of-Global (Scope → Bool) expr_fits name)
expr_layer (NnrsExpr-F.Unary op a) k g r n s h i =
    applied _ _ s (of-Unary (Scope → Bool) expr_fits op (renamed a r)) ∙ k g r n s h i
expr_layer (NnrsExpr-F.Binary op a b) k g r n s h i =
    let parts : IsTrue (source.fits_expr a g) × IsTrue (source.fits_expr b g) =
    and_parts (source.fits_expr a g) (source.fits_expr b g) i in
    applied _ _ s (of-Binary (Scope → Bool) expr_fits op (renamed a r) (renamed b r))
    ∙ both_true (reads (renamed a r) s) (reads (renamed b r) s) (k.0 g r n s h parts.0) (k.1 g r n s h parts.1)

expr_rolled : (x : NnrsExpr-F NnrsExpr) → HeldExpr OfExpr x → OfExpr (roll-NnrsExpr x)
expr_rolled x k g r n s h i =
    let fits : source.fits_expr (roll-NnrsExpr x)
    ≡ source.expr_fits (map-NnrsExpr NnrsExpr (source.Scope → Bool) source.fits_expr x) =
    fold-roll-NnrsExpr (source.Scope → Bool) source.expr_fits x in
    let trees : renamed (roll-NnrsExpr x) ≡ expr_form (map-NnrsExpr NnrsExpr Renaming renamed x) =
    fold-roll-NnrsExpr Renaming expr_form x in
    rw trees (expr_layer x k g r n s h (applied _ _ g (sym fits) ∙ i))

expr_reads : (e : NnrsExpr) → OfExpr e
expr_reads = expr_ind OfExpr expr_rolled

-- ---- statements

abbrev scopes : ImpStmt → Scoping
scopes t = target.fits_stmt t

only_true : (b : Bool) (s : Scope) → IsTrue b → only b s ≡ Some s
only_true b s e = ap (λ (t : Bool). only t s) e

some_there : (o : Option Scope) (s : Scope) → o ≡ Some s → IsTrue (is_some o)
some_there o s e = ap (λ (p : Option Scope). is_some p) e

declared_fresh : (n : ℕ) (c : target.Class) (s : Scope) → target.class_of n s ≡ None
    → declared n c s ≡ Some ((n, c) ∷ s)
declared_fresh n c s e = ap (λ (o : Option target.Class). only (not (is_some o)) ((n, c) ∷ s)) e

-- statements in order, each with the scope that the next one has
two_fit : (a b : Scoping) (s t u : Scope) → a s ≡ Some t → b t ≡ Some u → all_fit (a ∷ b ∷ []) s ≡ Some u
two_fit a b s t u p q =
    ap (λ (o : Option Scope). option_and_then (all_fit (b ∷ [])) o) p
    ∙ ap (λ (o : Option Scope). option_and_then (all_fit []) o) q

three_fit : (a b c : Scoping) (s t u v : Scope) → a s ≡ Some t → b t ≡ Some u → c u ≡ Some v
    → all_fit (a ∷ b ∷ c ∷ []) s ≡ Some v
three_fit a b c s t u v p q h =
    ap (λ (o : Option Scope). option_and_then (all_fit (b ∷ c ∷ [])) o) p ∙ two_fit b c t u v q h

block_fits : (o : Option Scope) (s t : Scope) → o ≡ Some t → only (is_some o) s ≡ Some s
block_fits o s t e = only_true (is_some o) s (some_there o t e)

both_fit : (a b : ImpStmt) (s t u : Scope) → scopes a s ≡ Some t → scopes b t ≡ Some u
    → scopes (both a b) s ≡ Some s
both_fit a b s t u p q =
    applied _ _ s (of-Block Scoping stmt_fits (a ∷ b ∷ []))
    ∙ block_fits (all_fit (scopes a ∷ scopes b ∷ []) s) s u (two_fit (scopes a) (scopes b) s t u p q)

var_fits : (n : ℕ) (s : Scope) → target.class_of n s ≡ None → scopes (to.Var n) s ≡ Some ((n, Settable) ∷ s)
var_fits n s e = applied _ _ s (of-Declared Scoping stmt_fits n) ∙ declared_fresh n Settable s e

val_fits : (n : ℕ) (e : ImpExpr) (s : Scope) → IsTrue (reads e s) → target.class_of n s ≡ None
    → scopes (to.Val n e) s ≡ Some ((n, Readable) ∷ s)
val_fits n e s h is =
    applied _ _ s (of-Val Scoping stmt_fits n e)
    ∙ ap (λ (t : Bool). cond t (declared n Readable s) None) h ∙ declared_fresh n Readable s is

assigned_fits : (n : ℕ) (a b : ImpStmt) (s : Scope) → target.class_of n s ≡ None
    → scopes a ((n, Settable) ∷ s) ≡ Some ((n, Settable) ∷ s)
    → scopes b ((n, Settable) ∷ s) ≡ Some ((n, Settable) ∷ s) → scopes (assigned n a b) s ≡ Some s
assigned_fits n a b s e p q =
    let inner : Scope = (n, Settable) ∷ s in
    applied _ _ s (of-Block Scoping stmt_fits (to.Var n ∷ a ∷ b ∷ []))
    ∙ block_fits (all_fit (scopes (to.Var n) ∷ scopes a ∷ scopes b ∷ []) s) s inner
    (three_fit (scopes (to.Var n)) (scopes a) (scopes b) s inner inner inner (var_fits n s e) p q)

collect_fits : (n : ℕ) (a : ImpStmt) (s : Scope) → target.class_of n s ≡ None
    → scopes a ((n, Pushable) ∷ s) ≡ Some ((n, Pushable) ∷ s)
    → scopes (to.Collect n (a ∷ [])) s ≡ Some ((n, Readable) ∷ s)
collect_fits n a s e p =
    let inner : Option Scope = option_and_then (all_fit (scopes a ∷ [])) (declared n Pushable s) in
    let is : inner ≡ Some ((n, Pushable) ∷ s) =
    ap (λ (o : Option Scope). option_and_then (all_fit (scopes a ∷ [])) o) (declared_fresh n Pushable s e)
    ∙ ap (λ (o : Option Scope). option_and_then (all_fit []) o) p in
    applied _ _ s (of-Collect Scoping stmt_fits n (a ∷ []))
    ∙ ap (λ (t : Bool). cond t (declared n Readable s) None) (some_there inner ((n, Pushable) ∷ s) is)
    ∙ declared_fresh n Readable s e

set_fits : (o : Option Class) (c : Option target.Class) → Fits o c → IsTrue (is_set o) → IsTrue (may_set c)
set_fits (Some Sets) c h i = h
set_fits (Some (Reads v)) c h i = absurd (cc)
set_fits (Some Pushes) c h i = absurd (cc)
set_fits None c h i = absurd (cc)

push_fits : (o : Option Class) (c : Option target.Class) → Fits o c → IsTrue (is_pushed o) → IsTrue (may_push c)
push_fits (Some Pushes) c h i = h
push_fits (Some (Reads v)) c h i = absurd (cc)
push_fits (Some Sets) c h i = absurd (cc)
push_fits None c h i = absurd (cc)

for_fits : (n : ℕ) (e : ImpExpr) (a : ImpStmt) (s : Scope) → IsTrue (reads e s) → target.class_of n s ≡ None
    → scopes a ((n, Readable) ∷ s) ≡ Some ((n, Readable) ∷ s) → scopes (to.For n e a) s ≡ Some s
for_fits n e a s h is p =
    let inner : Option Scope = option_and_then (scopes a) (declared n Readable s) in
    let there : inner ≡ Some ((n, Readable) ∷ s) =
    ap (λ (o : Option Scope). option_and_then (scopes a) o) (declared_fresh n Readable s is) ∙ p in
    applied _ _ s (of-For Scoping stmt_fits n e a)
    ∙ only_true (reads e s && is_some inner) s
    (both_true (reads e s) (is_some inner) h (some_there inner ((n, Readable) ∷ s) there))

if_fits : (e : ImpExpr) (a b : ImpStmt) (s : Scope) → IsTrue (reads e s) → scopes a s ≡ Some s → scopes b s ≡ Some s
    → scopes (to.If e a b) s ≡ Some s
if_fits e a b s h p q =
    let parts : Bool = is_some (scopes a s) && is_some (scopes b s) in
    applied _ _ s (of-If Scoping stmt_fits e a b)
    ∙ only_true (reads e s && parts) s
    (both_true (reads e s) parts h
    (both_true (is_some (scopes a s)) (is_some (scopes b s)) (some_there (scopes a s) s p)
    (some_there (scopes b s) s q)))

-- a variable that stands for a value
reads_here : (n : ℕ) (s : Scope) → IsTrue (reads (expr.Var n) ((n, Readable) ∷ s))
reads_here n s =
    reads-Var n ((n, Readable) ∷ s) ∙ ap (λ (o : Option target.Class). may_read o) (class_here n Readable s)

content_fits : (n : ℕ) (a : ImpStmt) (s : Scope) → target.class_of (n + 1) ((n, Readable) ∷ s) ≡ None
    → scopes a ((n + 1, Readable) ∷ (n, Readable) ∷ s) ≡ Some ((n + 1, Readable) ∷ (n, Readable) ∷ s)
    → scopes (with_content n a) ((n, Readable) ∷ s) ≡ Some ((n, Readable) ∷ s)
content_fits n a s e p =
    let there : Scope = (n, Readable) ∷ s in
    let content : ImpExpr = expr.Payload (expr.Var n) in
    both_fit (to.Val (n + 1) content) a there ((n + 1, Readable) ∷ there) ((n + 1, Readable) ∷ there)
    (val_fits (n + 1) content there
    (applied _ _ there (of-Payload (Scope → Bool) expr_fits (expr.Var n)) ∙ reads_here n s) e)
    p

side_fits : (n : ℕ) (e : ImpExpr) (a b : ImpStmt) (s : Scope) → IsTrue (reads e s) → target.class_of n s ≡ None
    → target.class_of (n + 1) ((n, Readable) ∷ s) ≡ None
    → scopes a ((n + 1, Readable) ∷ (n, Readable) ∷ s) ≡ Some ((n + 1, Readable) ∷ (n, Readable) ∷ s)
    → scopes b ((n + 1, Readable) ∷ (n, Readable) ∷ s) ≡ Some ((n + 1, Readable) ∷ (n, Readable) ∷ s)
    → scopes (by_side n e a b) s ≡ Some s
side_fits n e a b s h is next p q =
    let there : Scope = (n, Readable) ∷ s in
    let test : ImpExpr = expr.IsLeft (expr.Var n) in
    both_fit (to.Val n e) (to.If test (with_content n a) (with_content n b)) s there there (val_fits n e s h is)
    (if_fits test (with_content n a) (with_content n b) there
    (applied _ _ there (of-IsLeft (Scope → Bool) expr_fits (expr.Var n)) ∙ reads_here n s)
    (content_fits n a s next p) (content_fits n b s next q))

-- ---- all statements

abbrev Of : NnrsStmt → Type 0
Of t = (g : Frame) (r : Numbers) (n : ℕ) (s : Scope) → Allows g r n s → IsTrue (source.fits_stmt t g)
    → scopes (lower t r n) s ≡ Some s

none_at : (g : Frame) (r : Numbers) (n : ℕ) (s : Scope) → Allows g r n s → target.class_of n s ≡ None
none_at g r n s h = let same : n ≤ n = omega arith in h.fresh n same

layer : (x : NnrsStmt-F NnrsStmt) → HeldStmt Of x → (g : Frame) (r : Numbers) (n : ℕ) (s : Scope) → Allows g r n s
    → IsTrue (source.stmt_fits (map-NnrsStmt NnrsStmt (source.Scope → Bool) source.fits_stmt x) g)
    → scopes (lower_form (map-NnrsStmt NnrsStmt Lowering lower x) r n) s ≡ Some s
layer (NnrsStmt-F.Seq a b) k g r n s h i =
    let parts : IsTrue (source.fits_stmt a g) × IsTrue (source.fits_stmt b g) =
    and_parts (source.fits_stmt a g) (source.fits_stmt b g) i in
    both_fit (lower a r n) (lower b r n) s s s (k.0 g r n s h parts.0) (k.1 g r n s h parts.1)
layer (NnrsStmt-F.Let x e b) k g r n s h i =
    let parts : IsTrue (source.fits_expr e g) × IsTrue (source.fits_stmt b ((x, read_only) ∷ g)) =
    and_parts (source.fits_expr e g) (source.fits_stmt b ((x, read_only) ∷ g)) i in
    let inner : Scope = (n, Readable) ∷ s in
    both_fit (to.Val n (renamed e r)) (lower b ((x, n) ∷ r) (n + 1)) s inner inner
    (val_fits n (renamed e r) s (expr_reads e g r n s h parts.0) (none_at g r n s h))
    (k ((x, read_only) ∷ g) ((x, n) ∷ r) (n + 1) inner (allows_under g r n s x read_only Readable h refl) parts.1)
layer (NnrsStmt-F.LetMut x a b) k g r n s h i =
    let parts : IsTrue (source.fits_stmt a ((x, Sets) ∷ g)) × IsTrue (source.fits_stmt b ((x, read_only) ∷ g)) =
    and_parts (source.fits_stmt a ((x, Sets) ∷ g)) (source.fits_stmt b ((x, read_only) ∷ g)) i in
    let inner : Scope = (n, Settable) ∷ s in
    assigned_fits n (lower a ((x, n) ∷ r) (n + 1)) (lower b ((x, n) ∷ r) (n + 1)) s (none_at g r n s h)
    (k.0 ((x, Sets) ∷ g) ((x, n) ∷ r) (n + 1) inner (allows_under g r n s x Sets Settable h refl) parts.0)
    (k.1 ((x, read_only) ∷ g) ((x, n) ∷ r) (n + 1) inner (allows_under g r n s x read_only Settable h refl) parts.1)
layer (NnrsStmt-F.LetColl x a b) k g r n s h i =
    let parts : IsTrue (source.fits_stmt a ((x, Pushes) ∷ g)) × IsTrue (source.fits_stmt b ((x, read_only) ∷ g)) =
    and_parts (source.fits_stmt a ((x, Pushes) ∷ g)) (source.fits_stmt b ((x, read_only) ∷ g)) i in
    let part : ImpStmt = lower a ((x, n) ∷ r) (n + 1) in
    let inner : Scope = (n, Readable) ∷ s in
    both_fit (to.Collect n (part ∷ [])) (lower b ((x, n) ∷ r) (n + 1)) s inner inner
    (collect_fits n part s (none_at g r n s h)
    (k.0 ((x, Pushes) ∷ g) ((x, n) ∷ r) (n + 1) ((n, Pushable) ∷ s) (allows_under g r n s x Pushes Pushable h refl)
    parts.0))
    (k.1 ((x, read_only) ∷ g) ((x, n) ∷ r) (n + 1) inner (allows_under g r n s x read_only Readable h refl) parts.1)
layer (NnrsStmt-F.Set x e) k g r n s h i =
    let parts : IsTrue (is_set (class_of x g)) × IsTrue (source.fits_expr e g) =
    and_parts (is_set (class_of x g)) (source.fits_expr e g) i in
    let c : Option target.Class = target.class_of (number_of x r) s in
    applied _ _ s (of-Set Scoping stmt_fits (number_of x r) (renamed e r))
    ∙ only_true (may_set c && reads (renamed e r) s) s
    (both_true (may_set c) (reads (renamed e r) s) (set_fits (class_of x g) c (h.classes x) parts.0)
    (expr_reads e g r n s h parts.1))
layer (NnrsStmt-F.Push x e) k g r n s h i =
    let parts : IsTrue (is_pushed (class_of x g)) × IsTrue (source.fits_expr e g) =
    and_parts (is_pushed (class_of x g)) (source.fits_expr e g) i in
    let c : Option target.Class = target.class_of (number_of x r) s in
    applied _ _ s (of-Push Scoping stmt_fits (number_of x r) (renamed e r))
    ∙ only_true (may_push c && reads (renamed e r) s) s
    (both_true (may_push c) (reads (renamed e r) s) (push_fits (class_of x g) c (h.classes x) parts.0)
    (expr_reads e g r n s h parts.1))
layer (NnrsStmt-F.For x e b) k g r n s h i =
    let parts : IsTrue (source.fits_expr e g) × IsTrue (source.fits_stmt b ((x, read_only) ∷ g)) =
    and_parts (source.fits_expr e g) (source.fits_stmt b ((x, read_only) ∷ g)) i in
    for_fits n (renamed e r) (lower b ((x, n) ∷ r) (n + 1)) s (expr_reads e g r n s h parts.0) (none_at g r n s h)
    (k ((x, read_only) ∷ g) ((x, n) ∷ r) (n + 1) ((n, Readable) ∷ s)
    (allows_under g r n s x read_only Readable h refl) parts.1)
layer (NnrsStmt-F.If e a b) k g r n s h i =
    let parts : IsTrue (source.fits_expr e g) × IsTrue (source.fits_stmt a g && source.fits_stmt b g) =
    and_parts (source.fits_expr e g) (source.fits_stmt a g && source.fits_stmt b g) i in
    let branches : IsTrue (source.fits_stmt a g) × IsTrue (source.fits_stmt b g) =
    and_parts (source.fits_stmt a g) (source.fits_stmt b g) parts.1 in
    if_fits (renamed e r) (lower a r n) (lower b r n) s (expr_reads e g r n s h parts.0)
    (k.0 g r n s h branches.0) (k.1 g r n s h branches.1)
layer (NnrsStmt-F.Either e x a y b) k g r n s h i =
    let left : Bool = source.fits_stmt a ((x, read_only) ∷ g) in
    let right : Bool = source.fits_stmt b ((y, read_only) ∷ g) in
    let parts : IsTrue (source.fits_expr e g) × IsTrue (left && right) =
    and_parts (source.fits_expr e g) (left && right) i in
    let sides : IsTrue left × IsTrue right = and_parts left right parts.1 in
    let there : Scope = (n, Readable) ∷ s in
    let beside : Allows g r (n + 1) there = allows_beside g r n s Readable h in
    let inner : Scope = (n + 1, Readable) ∷ there in
    side_fits n (renamed e r) (lower a ((x, n + 1) ∷ r) (n + 1 + 1)) (lower b ((y, n + 1) ∷ r) (n + 1 + 1)) s
    (expr_reads e g r n s h parts.0) (none_at g r n s h) (none_at g r (n + 1) there beside)
    (k.0 ((x, read_only) ∷ g) ((x, n + 1) ∷ r) (n + 1 + 1) inner
    (allows_under g r (n + 1) there x read_only Readable beside refl) sides.0)
    (k.1 ((y, read_only) ∷ g) ((y, n + 1) ∷ r) (n + 1 + 1) inner
    (allows_under g r (n + 1) there y read_only Readable beside refl) sides.1)

rolled : (x : NnrsStmt-F NnrsStmt) → HeldStmt Of x → Of (roll-NnrsStmt x)
rolled x k g r n s h i =
    let fits : source.fits_stmt (roll-NnrsStmt x)
    ≡ source.stmt_fits (map-NnrsStmt NnrsStmt (source.Scope → Bool) source.fits_stmt x) =
    fold-roll-NnrsStmt (source.Scope → Bool) source.stmt_fits x in
    let programs : lower (roll-NnrsStmt x) ≡ lower_form (map-NnrsStmt NnrsStmt Lowering lower x) =
    fold-roll-NnrsStmt Lowering lower_form x in
    rw programs (layer x k g r n s h (applied _ _ g (sym fits) ∙ i))

stmt_scoped : (t : NnrsStmt) → Of t
stmt_scoped = stmt_ind Of rolled

pub program_fits : (p : Nnrs) → IsTrue (source.well_formed p) → IsTrue (target.well_formed (lowered p))
program_fits p i =
    let x : ℕ = p.result in
    let body : ImpStmt = lower p.body ((x, 0) ∷ []) 1 in
    let begun : Scope = (0, Settable) ∷ [] in
    let inside : scopes body begun ≡ Some begun =
    stmt_scoped p.body ((x, Sets) ∷ []) ((x, 0) ∷ []) 1 begun
    (allows_under [] [] 0 [] x Sets Settable allows_none refl) i in
    ap (λ (l : ImpStmt-F ImpStmt). result_fits 0 (scope_at l)) (out-Block (to.Var 0 ∷ body ∷ []))
    ∙ ap (λ (o : Option Scope). result_fits 0 o)
    (two_fit (scopes (to.Var 0)) (scopes body) [] begun begun (var_fits 0 [] refl) inside)
    ∙ ap (λ (o : Option target.Class). may_read o) (class_here 0 Settable [])
