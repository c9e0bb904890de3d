-- A statement and its program, step by step: what the statement writes is what the program makes of the store.
use Rattle.std.proofs.Common.{◌≡◌, ℕ, ◌+◌, Bool, true, false, cond, List, [], ◌∷◌, ◌++◌, length, Option, Some, None}
use Rattle.std.proofs.Common.{refl, sym, ap, ◌∙◌, subst}
use Rattle.qc_data.specs.Outcome.{Outcome, Value, Halts, and_then, gather, IsKept}
use Rattle.qc_data.specs.declared.data.Datum.{Datum}
use Rattle.qc_data.specs.declared.data.Datum.TheVariants.{Coll}
use Rattle.qc_nnrs.specs.Meaning as source
use Rattle.qc_nnrs.specs.Meaning.{Class, Reads, Sets, Pushes, Frame, Writes, class_of, written, without, last_of}
use Rattle.qc_nnrs.specs.Meaning.{set_at, push_at, reads_as}
use Rattle.qc_imp.specs.Meaning as target
use Rattle.qc_imp.specs.Meaning.{Cell, Settable, Constant, Collecting, Store, cell_of, value_in, set_to, pushed_to}
use Rattle.qc_imp.specs.Meaning.{changed, outer, newest_done, all_of, scoped, with_constant, for_each}
use Rattle.qc_to_imp.specs.inner.Numbering.{Numbers, number_of}
use Rattle.qc_to_imp.proofs.Frames.{Fits, IsWritten, Written, Holds, Below, holds_under, holds_after, written_both}
use Rattle.qc_to_imp.proofs.Frames.{all_below, others_below, written_without, written_read, after_read}
use Rattle.qc_to_imp.proofs.Stores.{filled, after, changed_is, after-length, outer_same, outer_one, after-append}
use Rattle.qc_to_imp.proofs.Stores.{after_beside, after_under, set_last, collected_all}

-- what is written may be, and the program makes it of the store
abbrev pub Done : Frame → Numbers → Store → Outcome Writes → Outcome Store → Type 0
Done g r st (Value ws) p = Written g ws × (p ≡ Value (after r ws st))
Done g r st (Halts why) p = Unit {0}

-- a statement and its program, from each store that holds what the frame says
abbrev pub Runs : Frame → Numbers → ℕ → source.Meaning → target.Meaning → Type 0
Runs g r n a b = (st : Store) → Holds g r n st → Done g r st (a g) (b st)

-- ---- outcomes

-- the same outcome of the program in another form
pub done_to : (g : Frame) (r : Numbers) (st : Store) (o : Outcome Writes) (p q : Outcome Store) → q ≡ p
    → Done g r st o p → Done g r st o q
done_to g r st o p q e d = subst (Done g r st o) (sym e) d

-- the same value first
pub done_then : {A : Type 0} (g : Frame) (r : Numbers) (st : Store) (o p : Outcome A) (f : A → Outcome Writes)
    (h : A → Outcome Store) → IsKept o p → ((v : A) → Done g r st (f v) (h v))
    → Done g r st (and_then o f) (and_then p h)
done_then g r st (Value v) p f h k d =
    done_to g r st (f v) (h v) (and_then p h) (ap (λ (q : Outcome _). and_then q h) k) (d v)
done_then g r st (Halts why) p f h k d = tt

-- writes behind others
done_rest : (g : Frame) (r : Numbers) (st : Store) (us : Writes) (o : Outcome Writes) (p : Outcome Store)
    → Written g us → Done g r (after r us st) o p → Done g r st (and_then o (λ vs. Value (us ++ vs))) p
done_rest g r st us (Value vs) p w d =
    (written_both g us vs w d.0, d.1 ∙ ap (λ (t : Store). Value t) (sym (after-append r us vs st)))
done_rest g r st us (Halts why) p w d = tt

-- one after another
pub done_seq : (g : Frame) (r : Numbers) (st : Store) (o : Outcome Writes) (p : Outcome Store) (q : Outcome Writes)
    (h : target.Meaning) → Done g r st o p
    → ((us : Writes) → Written g us → Done g r (after r us st) q (h (after r us st)))
    → Done g r st (and_then o (λ us. and_then q (λ vs. Value (us ++ vs)))) (and_then p h)
done_seq g r st (Value us) p q h d k =
    done_to g r st (and_then q (λ vs. Value (us ++ vs))) (h (after r us st)) (and_then p h)
    (ap (λ (t : Outcome Store). and_then t h) d.1) (done_rest g r st us q (h (after r us st)) d.0 (k us d.0))
done_seq g r st (Halts why) p q h d k = tt

pub done_choice : (g : Frame) (r : Numbers) (st : Store) (t : Bool) (o q : Outcome Writes) (p u : Outcome Store)
    → Done g r st o p → Done g r st q u → Done g r st (cond t o q) (cond t p u)
done_choice g r st true o q p u d e = d
done_choice g r st false o q p u d e = e

-- ---- blocks

none_after : (p : Outcome Store) → and_then p (all_of []) ≡ p
none_after (Value st) = refl
none_after (Halts why) = refl

-- the last statement
pub done_last : (g : Frame) (r : Numbers) (st : Store) (o : Outcome Writes) (p : Outcome Store) → Done g r st o p
    → Done g r st o (and_then p (all_of []))
done_last g r st o p d = done_to g r st o p (and_then p (all_of [])) (none_after p) d

-- the end of a part that declares nothing outside itself
pub done_scoped : (g : Frame) (r : Numbers) (st : Store) (o : Outcome Writes) (p : Outcome Store) → Done g r st o p
    → Done g r st o (and_then p (λ t. Value (outer st t)))
done_scoped g r st (Value ws) p d = (
  d.0,
  ap (λ (q : Outcome Store). and_then q (λ t. Value (outer st t))) d.1
      ∙ ap (λ (t : Store). Value t) (outer_same st (after r ws st) (after-length r ws st)),
)
done_scoped g r st (Halts why) p d = tt

-- the end of a part that declares n
pub done_dropped : (g : Frame) (r : Numbers) (n : ℕ) (base st : Store) (c : Cell) (o : Outcome Writes)
    (p : Outcome Store) → Below g r n → length st ≡ length base → Done g r ((n, c) ∷ st) o p
    → Done g r st o (and_then p (λ t. Value (outer base t)))
done_dropped g r n base st c (Value ws) p below e d = (
  d.0,
  ap (λ (q : Outcome Store). and_then q (λ t. Value (outer base t))) d.1
      ∙ ap (λ (t : Store). Value (outer base t)) (after_beside r n ws c st (all_below g r n ws below d.0))
      ∙ ap (λ (t : Store). Value t) (outer_one base (after r ws st) (n, c) (after-length r ws st ∙ e)),
)
done_dropped g r n base st c (Halts why) p below e d = tt

-- ---- variables that are read

-- what is written under a binder of a variable that is read is written outside it
pub done_read : (g : Frame) (r : Numbers) (n x : ℕ) (v : Option Datum) (st : Store) (o : Outcome Writes)
    (p : Outcome Store) → Done ((x, Reads v) ∷ g) ((x, n) ∷ r) st o p → Done g r st o p
done_read g r n x v st (Value ws) p d =
    (written_read g x v ws d.0, d.1 ∙ ap (λ (t : Store). Value t) (after_read g r n x v ws st d.0))
done_read g r n x v st (Halts why) p d = tt

-- a statement under a binder, with the value of the variable as a constant
pub body_done : (g : Frame) (r : Numbers) (n : ℕ) (st : Store) (x : ℕ) (d : Datum) (a : source.Meaning)
    (b : target.Meaning) → Holds g r n st → Runs ((x, Reads (Some d)) ∷ g) ((x, n) ∷ r) (n + 1) a b
    → Done g r ((n, Constant d) ∷ st) (reads_as x a g d) (b ((n, Constant d) ∷ st))
unfolding reads_as
body_done g r n st x d a b h k =
    done_read g r n x (Some d) ((n, Constant d) ∷ st) (a ((x, Reads (Some d)) ∷ g)) (b ((n, Constant d) ∷ st))
    (k ((n, Constant d) ∷ st) (holds_under g r n st x (Reads (Some d)) (Constant d) h refl))

-- a value as the constant n, and a statement behind it
pub value_done : (g : Frame) (r : Numbers) (n : ℕ) (st : Store) (o p : Outcome Datum) (f : Datum → Outcome Writes)
    (a b : target.Meaning) → Below g r n → a st ≡ and_then p (λ d. Value ((n, Constant d) ∷ st)) → IsKept o p
    → ((d : Datum) → Done g r ((n, Constant d) ∷ st) (f d) (b ((n, Constant d) ∷ st)))
    → Done g r st (and_then o f) (scoped (all_of (a ∷ b ∷ [])) st)
unfolding scoped
value_done g r n st (Value d) p f a b below is k h =
    let inner : Outcome Store = b ((n, Constant d) ∷ st) in
    let same : a st ≡ Value ((n, Constant d) ∷ st) =
    is ∙ ap (λ (q : Outcome Datum). and_then q (λ e. Value ((n, Constant e) ∷ st))) k in
    done_to g r st (f d) (and_then (and_then inner (all_of [])) (λ t. Value (outer st t)))
    (and_then (all_of (a ∷ b ∷ []) st) (λ t. Value (outer st t)))
    (ap (λ (q : Outcome Store). and_then (and_then q (all_of (b ∷ []))) (λ t. Value (outer st t))) same)
    (done_dropped g r n st st (Constant d) (f d) (and_then inner (all_of [])) below refl
    (done_last g r ((n, Constant d) ∷ st) (f d) inner (h d)))
value_done g r n st (Halts why) p f a b below is k h = tt

-- ---- loops

pub loop_done : (g : Frame) (r : Numbers) (n x : ℕ) (a : source.Meaning) (b : target.Meaning)
    → ((d : Datum) → Runs ((x, Reads (Some d)) ∷ g) ((x, n) ∷ r) (n + 1) a b) → (ds : List Datum) (st : Store)
    → Holds g r n st → Done g r st (gather (reads_as x a g) ds) (for_each (with_constant n b) ds st)
unfolding with_constant
loop_done g r n x a b k [] st h = (tt, refl)
loop_done g r n x a b k (d ∷ ds) st h =
    done_seq g r st (reads_as x a g d) (and_then (b ((n, Constant d) ∷ st)) (λ t. Value (outer st t)))
    (gather (reads_as x a g) ds) (for_each (with_constant n b) ds)
    (done_dropped g r n st st (Constant d) (reads_as x a g d) (b ((n, Constant d) ∷ st)) h.below refl
    (body_done g r n st x d a b h (k d)))
    (λ us w. loop_done g r n x a b k ds (after r us st) (holds_after g r n us st h w))

-- ---- variables that are set or pushed to, and then read

-- behind the first part: the cell of its own variable, by what was written to it, and the writes to others
abbrev pub First : Frame → Numbers → ℕ → Store → ℕ → Class → (List Datum → Cell) → Outcome Writes → Outcome Store
    → Type 0
First g r n st x class cell (Value us) p =
    Written ((x, class) ∷ g) us × (p ≡ Value ((n, cell (written x us)) ∷ after r (without x us) st))
First g r n st x class cell (Halts why) p = Unit {0}

first_done : (g : Frame) (r : Numbers) (n : ℕ) (st : Store) (x : ℕ) (class : Class) (c : Cell) (o : Outcome Writes)
    (p : Outcome Store) → Below g r n → Done ((x, class) ∷ g) ((x, n) ∷ r) ((n, c) ∷ st) o p
    → First g r n st x class (λ ds. filled ds c) o p
first_done g r n st x class c (Value us) p below d = (
  d.0,
  d.1 ∙ ap (λ (t : Store). Value t) (after_under x n r us (others_below g r n x class us below d.0) c st),
)
first_done g r n st x class c (Halts why) p below d = tt

first_set : (g : Frame) (r : Numbers) (n : ℕ) (st : Store) (x : ℕ) (o : Outcome Writes) (p : Outcome Store)
    → First g r n st x Sets (λ ds. filled ds (Settable None)) o p
    → First g r n st x Sets (λ ds. Settable (last_of ds)) o p
first_set g r n st x (Value us) p f =
    (f.0, f.1 ∙ ap (λ (c : Cell). Value ((n, c) ∷ after r (without x us) st)) (set_last (written x us)))
first_set g r n st x (Halts why) p f = tt

first_collected : (g : Frame) (r : Numbers) (n : ℕ) (st : Store) (x : ℕ) (o : Outcome Writes) (p : Outcome Store)
    → First g r n st x Pushes (λ ds. filled ds (Collecting [])) o p
    → First g r n st x Pushes (λ ds. Constant (Coll ds)) o (and_then p (λ t. Value (newest_done t)))
first_collected g r n st x (Value us) p f = (
  f.0,
  ap (λ (q : Outcome Store). and_then q (λ t. Value (newest_done t))) f.1
      ∙ ap (λ (c : Cell). Value (newest_done ((n, c) ∷ after r (without x us) st))) (collected_all [] (written x us)),
)
first_collected g r n st x (Halts why) p f = tt

-- a variable that is set
pub set_first : (g : Frame) (r : Numbers) (n : ℕ) (st : Store) (x : ℕ) (o : Outcome Writes) (p : Outcome Store)
    → Below g r n → Done ((x, Sets) ∷ g) ((x, n) ∷ r) ((n, Settable None) ∷ st) o p
    → First g r n st x Sets (λ ds. Settable (last_of ds)) o p
set_first g r n st x o p below d = first_set g r n st x o p (first_done g r n st x Sets (Settable None) o p below d)

-- a variable that is pushed to, and then done
pub pushed_first : (g : Frame) (r : Numbers) (n : ℕ) (st : Store) (x : ℕ) (o : Outcome Writes) (p : Outcome Store)
    → Below g r n → Done ((x, Pushes) ∷ g) ((x, n) ∷ r) ((n, Collecting []) ∷ st) o p
    → First g r n st x Pushes (λ ds. Constant (Coll ds)) o (and_then p (λ t. Value (newest_done t)))
pushed_first g r n st x o p below d =
    first_collected g r n st x o p (first_done g r n st x Pushes (Collecting []) o p below d)

-- the second part reads what was written
pub handed_done : (g : Frame) (r : Numbers) (n : ℕ) (st : Store) (x : ℕ) (class : Class) (cell : List Datum → Cell)
    (h : List Datum → Option Datum) (o : Outcome Writes) (p : Outcome Store) (a : source.Meaning) (b : target.Meaning)
    → Holds g r n st → ((ds : List Datum) → value_in (Some (cell ds)) ≡ h ds) → First g r n st x class cell o p
    → ((v : Option Datum) → Runs ((x, Reads v) ∷ g) ((x, n) ∷ r) (n + 1) a b)
    → Done g r st
    (and_then o (λ us. and_then (a ((x, Reads (h (written x us))) ∷ g)) (λ vs. Value (without x us ++ vs))))
    (and_then (and_then p (all_of (b ∷ []))) (λ t. Value (outer st t)))
handed_done g r n st x class cell h (Value us) p a b holds is f k =
    let v : Option Datum = h (written x us) in
    let c : Cell = cell (written x us) in
    let rest : Writes = without x us in
    let behind : Store = after r rest st in
    let may : Written g rest = written_without g x class us f.0 in
    let there : Holds ((x, Reads v) ∷ g) ((x, n) ∷ r) (n + 1) ((n, c) ∷ behind) =
    holds_under g r n behind x (Reads v) c (holds_after g r n rest st holds may) (is (written x us)) in
    let inner : Outcome Store = b ((n, c) ∷ behind) in
    let read : Done g r ((n, c) ∷ behind) (a ((x, Reads v) ∷ g)) inner =
    done_read g r n x v ((n, c) ∷ behind) (a ((x, Reads v) ∷ g)) inner (k v ((n, c) ∷ behind) there) in
    let last : Done g r behind (a ((x, Reads v) ∷ g))
    (and_then (and_then inner (all_of [])) (λ t. Value (outer st t))) =
    done_dropped g r n st behind c (a ((x, Reads v) ∷ g)) (and_then inner (all_of [])) holds.below
    (after-length r rest st) (done_last g r ((n, c) ∷ behind) (a ((x, Reads v) ∷ g)) inner read) in
    done_to g r st (and_then (a ((x, Reads v) ∷ g)) (λ vs. Value (rest ++ vs)))
    (and_then (and_then inner (all_of [])) (λ t. Value (outer st t)))
    (and_then (and_then p (all_of (b ∷ []))) (λ t. Value (outer st t)))
    (ap (λ (q : Outcome Store). and_then (and_then q (all_of (b ∷ []))) (λ t. Value (outer st t))) f.1)
    (done_rest g r st rest (a ((x, Reads v) ∷ g)) (and_then (and_then inner (all_of [])) (λ t. Value (outer st t)))
    may last)
handed_done g r n st x class cell h (Halts why) p a b holds is f k = tt

-- ---- writes

set_class : (g : Frame) (r : Numbers) (st : Store) (x : ℕ) (d : Datum) (o : Option Class) → class_of x g ≡ o
    → Fits o (cell_of (number_of x r) st) → Done g r st (set_at x d o) (changed (set_to d) (number_of x r) st)
set_class g r st x d (Some Sets) e f =
    ((subst IsWritten (sym e) tt, tt), changed_is (set_to d) (number_of x r) d (Settable f.0) st f.1 refl)
set_class g r st x d (Some Pushes) e f = tt
set_class g r st x d (Some (Reads v)) e f = tt
set_class g r st x d None e f = tt

pub set_done : (g : Frame) (r : Numbers) (n : ℕ) (st : Store) (x : ℕ) (d : Datum) → Holds g r n st
    → Done g r st (set_at x d (class_of x g)) (changed (set_to d) (number_of x r) st)
set_done g r n st x d h = set_class g r st x d (class_of x g) refl (h.cells x)

push_class : (g : Frame) (r : Numbers) (st : Store) (x : ℕ) (d : Datum) (o : Option Class) → class_of x g ≡ o
    → Fits o (cell_of (number_of x r) st) → Done g r st (push_at x d o) (changed (pushed_to d) (number_of x r) st)
push_class g r st x d (Some Pushes) e f =
    ((subst IsWritten (sym e) tt, tt), changed_is (pushed_to d) (number_of x r) d (Collecting f.0) st f.1 refl)
push_class g r st x d (Some Sets) e f = tt
push_class g r st x d (Some (Reads v)) e f = tt
push_class g r st x d None e f = tt

pub push_done : (g : Frame) (r : Numbers) (n : ℕ) (st : Store) (x : ℕ) (d : Datum) → Holds g r n st
    → Done g r st (push_at x d (class_of x g)) (changed (pushed_to d) (number_of x r) st)
push_done g r n st x d h = push_class g r st x d (class_of x g) refl (h.cells x)
