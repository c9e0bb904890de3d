-- What writes make of a store of cells.
use Rattle.std.proofs.Common.{◌≡◌, ◌==◌, ◌<◌, ℕ, Bool, true, false, cond, List, [], ◌∷◌, ◌++◌, length, drop}
use Rattle.std.proofs.Common.{Option, Some, None, refl, sym, ap, ◌∙◌, arith, append_assoc, append-nil}
use Rattle.std.specs.Prelude.{◌-◌, option_map}
use Rattle.std.proofs.lemmas.Bool.Decides.{nat_tests}
use Rattle.qc_data.specs.Outcome.{Outcome, Value, and_then}
use Rattle.qc_data.specs.declared.data.Datum.{Datum}
use Rattle.qc_nnrs.specs.Meaning.{Writes, written, without, last_of}
use Rattle.qc_imp.specs.Meaning.{Cell, Settable, Constant, Collecting, Store, cell_of, changed, outer}
use Rattle.qc_to_imp.specs.inner.Numbering.{Numbers, number_of}

-- ---- cells

-- a value that is written to a cell: one that may be set has it, and a collector has it behind what it had
abbrev pub put_in : Datum → Cell → Cell
put_in d (Settable o) = Settable (Some d)
put_in d (Constant e) = Constant e
put_in d (Collecting ds) = Collecting (ds ++ d ∷ [])

-- values that are written to a cell in order
abbrev pub filled : List Datum → Cell → Cell
filled [] c = c
filled (d ∷ ds) c = filled ds (put_in d c)

-- a value that is written to the newest cell of a number
abbrev pub put : ℕ → Datum → Store → Store
put k d [] = []
put k d (c ∷ st) = cond (c.0 == k) ((c.0, put_in d c.1) ∷ st) (c ∷ put k d st)

-- a store after writes, by the numbers of variables
abbrev pub after : Numbers → Writes → Store → Store
after r [] st = st
after r (w ∷ ws) st = after r ws (put (number_of w.0 r) w.1 st)

-- ---- numbers

pub same_number : (n : ℕ) → (n == n) ≡ true
same_number n = grind (arith, nat_tests)

pub other_number : (k n : ℕ) → k < n → (n == k) ≡ false
other_number k n lt = grind (arith, nat_tests)

pub turned : (x y : ℕ) (t : Bool) → (x == y) ≡ t → (y == x) ≡ t
turned x y true e = grind (arith, nat_tests)
turned x y false e = grind (arith, nat_tests)

-- ---- the cells of a store

pub cell_here : (n : ℕ) (c : Cell) (st : Store) → cell_of n ((n, c) ∷ st) ≡ Some c
cell_here n c st = ap (λ (t : Bool). cond t (Some c) (cell_of n st)) (same_number n)

pub cell_there : (k n : ℕ) (c : Cell) (st : Store) → k < n → cell_of k ((n, c) ∷ st) ≡ cell_of k st
cell_there k n c st lt = ap (λ (t : Bool). cond t (Some c) (cell_of k st)) (other_number k n lt)

put_here : (n : ℕ) (d : Datum) (c : Cell) (st : Store) → put n d ((n, c) ∷ st) ≡ (n, put_in d c) ∷ st
put_here n d c st = ap (λ (t : Bool). cond t ((n, put_in d c) ∷ st) ((n, c) ∷ put n d st)) (same_number n)

put_there : (k n : ℕ) (d : Datum) (c : Cell) (st : Store) → k < n → put k d ((n, c) ∷ st) ≡ (n, c) ∷ put k d st
put_there k n d c st lt =
    ap (λ (t : Bool). cond t ((n, put_in d c) ∷ st) ((n, c) ∷ put k d st)) (other_number k n lt)

put_step : (t : Bool) (x : ℕ) (c : Cell) (k : ℕ) (d : Datum) (st u : Store) → (x == k) ≡ t
    → cell_of k u ≡ option_map (put_in d) (cell_of k st)
    → cell_of k (cond t ((x, put_in d c) ∷ st) ((x, c) ∷ u)) ≡ option_map (put_in d) (cond t (Some c) (cell_of k st))
put_step true x c k d st u e h = ap (λ (t : Bool). cond t (Some (put_in d c)) (cell_of k st)) e
put_step false x c k d st u e h = ap (λ (t : Bool). cond t (Some c) (cell_of k u)) e ∙ h

-- the cell that is written to
pub cell_put : (k : ℕ) (d : Datum) (st : Store) → cell_of k (put k d st) ≡ option_map (put_in d) (cell_of k st)
cell_put k d [] = refl
cell_put k d (c ∷ st) = put_step (c.0 == k) c.0 c.1 k d st (put k d st) refl (cell_put k d st)

other_of : (x k j : ℕ) → (x == k) ≡ true → (k == j) ≡ false → (x == j) ≡ false
other_of x k j e h = grind (arith, nat_tests)

other_step : (t : Bool) (x : ℕ) (c : Cell) (k j : ℕ) (d : Datum) (st u : Store) → (x == k) ≡ t → (k == j) ≡ false
    → cell_of j u ≡ cell_of j st
    → cell_of j (cond t ((x, put_in d c) ∷ st) ((x, c) ∷ u)) ≡ cond (x == j) (Some c) (cell_of j st)
other_step true x c k j d st u e n h =
    let f : (x == j) ≡ false = other_of x k j e n in
    ap (λ (t : Bool). cond t (Some (put_in d c)) (cell_of j st)) f
    ∙ sym (ap (λ (t : Bool). cond t (Some c) (cell_of j st)) f)
other_step false x c k j d st u e n h = ap (λ (o : Option Cell). cond (x == j) (Some c) o) h

-- a cell that is not written to
pub cell_other : (k j : ℕ) (d : Datum) (st : Store) → (k == j) ≡ false → cell_of j (put k d st) ≡ cell_of j st
cell_other k j d [] n = refl
cell_other k j d (c ∷ st) n = other_step (c.0 == k) c.0 c.1 k j d st (put k d st) refl n (cell_other k j d st n)

changed_step : (t : Bool) (x : ℕ) (e : Cell) (h : Cell → Outcome Cell) (k : ℕ) (d : Datum) (c : Cell) (st u : Store)
    (o : Outcome Store) → cond t (Some e) (cell_of k st) ≡ Some c → h c ≡ Value (put_in d c)
    → (cell_of k st ≡ Some c → o ≡ Value u)
    → cond t (and_then (h e) (λ y. Value ((x, y) ∷ st))) (and_then o (λ v. Value ((x, e) ∷ v)))
    ≡ Value (cond t ((x, put_in d e) ∷ st) ((x, e) ∷ u))
changed_step true x e h k d c st u o is at later =
    let same : e ≡ c = cc in
    let here : h e ≡ Value (put_in d e) = rw same at in
    ap (λ (p : Outcome Cell). and_then p (λ y. Value ((x, y) ∷ st))) here
changed_step false x e h k d c st u o is at later =
    ap (λ (p : Outcome Store). and_then p (λ v. Value ((x, e) ∷ v))) (later is)

-- a change that writes the value to the cell that is there
pub changed_is : (h : Cell → Outcome Cell) (k : ℕ) (d : Datum) (c : Cell) (st : Store) → cell_of k st ≡ Some c
    → h c ≡ Value (put_in d c) → changed h k st ≡ Value (put k d st)
changed_is h k d c [] is at = absurd (cc)
changed_is h k d c (e ∷ st) is at =
    changed_step (e.0 == k) e.0 e.1 h k d c st (put k d st) (changed h k st) is at
    (λ i. changed_is h k d c st i at)

-- ---- lengths

length_step : (t : Bool) (c e : ℕ × Cell) (st u : Store) → length u ≡ length st
    → length (cond t (e ∷ st) (c ∷ u)) ≡ length (c ∷ st)
length_step true c e st u h = refl
length_step false c e st u h = omega (arith, h)

put-length : (k : ℕ) (d : Datum) (st : Store) → length (put k d st) ≡ length st
put-length k d [] = refl
put-length k d (c ∷ st) =
    length_step (c.0 == k) c (c.0, put_in d c.1) st (put k d st) (put-length k d st)

pub after-length : (r : Numbers) (ws : Writes) (st : Store) → length (after r ws st) ≡ length st
after-length r [] st = refl
after-length r (w ∷ ws) st =
    after-length r ws (put (number_of w.0 r) w.1 st) ∙ put-length (number_of w.0 r) w.1 st

-- what was declared before, where nothing or one variable more is declared
pub outer_same : (st t : Store) → length t ≡ length st → outer st t ≡ t
outer_same st t e =
    let none : length t - length st ≡ 0 = omega (arith, e) in ap (λ (n : ℕ). drop n t) none

pub outer_one : (st t : Store) (c : ℕ × Cell) → length t ≡ length st → outer st (c ∷ t) ≡ t
outer_one st t c e =
    let one : length (c ∷ t) - length st ≡ 1 = omega (arith, e) in ap (λ (n : ℕ). drop n (c ∷ t)) one

-- ---- writes

pub after-append : (r : Numbers) (us vs : Writes) (st : Store) → after r (us ++ vs) st ≡ after r vs (after r us st)
after-append r [] vs st = refl
after-append r (u ∷ us) vs st = after-append r us vs (put (number_of u.0 r) u.1 st)

-- the numbers of the variables that are written to are below n
abbrev pub AllBelow : Numbers → ℕ → Writes → Type 0
AllBelow r n [] = Unit {0}
AllBelow r n (w ∷ ws) = (number_of w.0 r < n) × AllBelow r n ws

-- writes below n leave the cell of n
pub after_beside : (r : Numbers) (n : ℕ) (ws : Writes) (c : Cell) (st : Store) → AllBelow r n ws
    → after r ws ((n, c) ∷ st) ≡ (n, c) ∷ after r ws st
after_beside r n [] c st h = refl
after_beside r n (w ∷ ws) c st h =
    ap (after r ws) (put_there (number_of w.0 r) n w.1 c st h.0)
    ∙ after_beside r n ws c (put (number_of w.0 r) w.1 st) h.1

-- the numbers of the variables that are written to, but for x, are below n
abbrev pub OthersBelow : ℕ → Numbers → ℕ → Writes → Type 0
OthersBelow x r n [] = Unit {0}
OthersBelow x r n (w ∷ ws) = ((w.0 == x) ≡ false → number_of w.0 r < n) × OthersBelow x r n ws

under_step : (x n : ℕ) (r : Numbers) (y : ℕ) (d : Datum) (ws : Writes) (c : Cell) (st : Store) (t : Bool)
    → (y == x) ≡ t → ((y == x) ≡ false → number_of y r < n)
    → ((e : Cell) (u : Store) → after ((x, n) ∷ r) ws ((n, e) ∷ u)
    ≡ (n, filled (written x ws) e) ∷ after r (without x ws) u)
    → after ((x, n) ∷ r) ws (put (number_of y ((x, n) ∷ r)) d ((n, c) ∷ st))
    ≡ (n, filled (cond t (d ∷ written x ws) (written x ws)) c)
    ∷ after r (cond t (without x ws) ((y, d) ∷ without x ws)) st
under_step x n r y d ws c st true e below ih =
    let named : number_of y ((x, n) ∷ r) ≡ n =
    ap (λ (t : Bool). cond t n (number_of y r)) (turned y x true e) in
    ap (λ (k : ℕ). after ((x, n) ∷ r) ws (put k d ((n, c) ∷ st))) named
    ∙ ap (after ((x, n) ∷ r) ws) (put_here n d c st) ∙ ih (put_in d c) st
under_step x n r y d ws c st false e below ih =
    let named : number_of y ((x, n) ∷ r) ≡ number_of y r =
    ap (λ (t : Bool). cond t n (number_of y r)) (turned y x false e) in
    ap (λ (k : ℕ). after ((x, n) ∷ r) ws (put k d ((n, c) ∷ st))) named
    ∙ ap (after ((x, n) ∷ r) ws) (put_there (number_of y r) n d c st (below e)) ∙ ih c (put (number_of y r) d st)

-- writes under a binder of x as n: its own go to the newest cell, and the others to the rest
pub after_under : (x n : ℕ) (r : Numbers) (ws : Writes) → OthersBelow x r n ws → (c : Cell) (st : Store)
    → after ((x, n) ∷ r) ws ((n, c) ∷ st) ≡ (n, filled (written x ws) c) ∷ after r (without x ws) st
after_under x n r [] h c st = refl
after_under x n r (w ∷ ws) h c st =
    under_step x n r w.0 w.1 ws c st (w.0 == x) refl h.0 (λ e u. after_under x n r ws h.1 e u)

-- ---- what was written to a cell

last_or : (o : Option Datum) (ds : List Datum) → Option Datum
last_or o [] = o
last_or o (d ∷ ds) = last_or (Some d) ds

last_some : (d : Datum) (ds : List Datum) → last_or (Some d) ds ≡ last_of (d ∷ ds)
unfolding last_or
last_some d [] = refl
last_some d (e ∷ ds) = last_some e ds

filled_set : (o : Option Datum) (ds : List Datum) → filled ds (Settable o) ≡ Settable (last_or o ds)
unfolding last_or
filled_set o [] = refl
filled_set o (d ∷ ds) = filled_set (Some d) ds

last_none : (ds : List Datum) → last_or None ds ≡ last_of ds
unfolding last_or
last_none [] = refl
last_none (d ∷ ds) = last_some d ds

-- a variable that had no value has the last one
pub set_last : (ds : List Datum) → filled ds (Settable None) ≡ Settable (last_of ds)
set_last ds = filled_set None ds ∙ ap (λ (o : Option Datum). Settable o) (last_none ds)

-- a collector has what it had and all that was pushed
pub collected_all : (es ds : List Datum) → filled ds (Collecting es) ≡ Collecting (es ++ ds)
collected_all es [] = ap (λ (l : List Datum). Collecting l) (sym (append-nil es))
collected_all es (d ∷ ds) =
    collected_all (es ++ d ∷ []) ds ∙ ap (λ (l : List Datum). Collecting l) (append_assoc es (d ∷ []) ds)
