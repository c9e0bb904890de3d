-- Stores that hold what a frame says of its variables.
use Rattle.std.proofs.Common.{◌≡◌, ◌==◌, ◌<◌, ℕ, ◌+◌, Bool, true, false, cond, List, [], ◌∷◌, ◌++◌, Option, Some, None}
use Rattle.std.proofs.Common.{refl, sym, ap, ◌∙◌, subst, arith}
use Rattle.std.specs.Prelude.{option_map}
use Rattle.std.proofs.lemmas.Bool.Decides.{nat_tests}
use Rattle.qc_data.specs.declared.data.Datum.{Datum}
use Rattle.qc_nnrs.specs.Meaning.{Class, Reads, Sets, Pushes, Frame, Writes, class_of, without}
use Rattle.qc_imp.specs.Meaning.{Cell, Settable, Collecting, Store, cell_of, value_in}
use Rattle.qc_to_imp.specs.inner.Numbering.{Numbers, number_of}
use Rattle.qc_to_imp.proofs.Stores.{put_in, put, after, turned, cell_here, cell_there, cell_put, cell_other}
use Rattle.qc_to_imp.proofs.Stores.{AllBelow, OthersBelow}

-- ---- classes

-- a cell is as a class says: it has the value that is read, or may be set, or is pushed to
abbrev pub Fits : Option Class → Option Cell → Type 0
Fits None c = Unit {0}
Fits (Some (Reads o)) c = value_in c ≡ o
Fits (Some Sets) c = (o : Option Datum) × (c ≡ Some (Settable o))
Fits (Some Pushes) c = (ds : List Datum) × (c ≡ Some (Collecting ds))

abbrev pub IsBound : Option Class → Type 0
IsBound None = ⊥
IsBound (Some class) = Unit {0}

-- a variable may be set or pushed to
abbrev pub IsWritten : Option Class → Type 0
IsWritten (Some Sets) = Unit {0}
IsWritten (Some Pushes) = Unit {0}
IsWritten _ = ⊥

-- writes to variables that may be set or pushed to
abbrev pub Written : Frame → Writes → Type 0
Written g [] = Unit {0}
Written g (w ∷ ws) = IsWritten (class_of w.0 g) × Written g ws

bound : (o : Option Class) → IsWritten o → IsBound o
bound None h = h
bound (Some class) h = tt

-- what is written to a cell leaves it as its class says
fits_put : (o : Option Class) (d : Datum) (c : Option Cell) → IsWritten o → Fits o c → Fits o (option_map (put_in d) c)
fits_put (Some Sets) d c w h = (Some d, ap (option_map (put_in d)) h.1)
fits_put (Some Pushes) d c w h = (h.0 ++ d ∷ [], ap (option_map (put_in d)) h.1)
fits_put (Some (Reads o)) d c w h = absurd w
fits_put None d c w h = absurd w

-- a newer cell of a greater number
fits_beside : (o : Option Class) (k n : ℕ) (c : Cell) (st : Store) → (IsBound o → k < n) → Fits o (cell_of k st)
    → Fits o (cell_of k ((n, c) ∷ st))
fits_beside None k n c st lt h = tt
fits_beside (Some class) k n c st lt h = subst (Fits (Some class)) (sym (cell_there k n c st (lt tt))) h

-- ---- frames

-- the cells of the variables are as their classes say; the numbers are below n, and those of two variables differ
pub record Holds (g : Frame) (r : Numbers) (n : ℕ) (st : Store) : Type 0 where
  pub cells : (x : ℕ) → Fits (class_of x g) (cell_of (number_of x r) st)
  pub below : (x : ℕ) → IsBound (class_of x g) → number_of x r < n
  pub apart : (x y : ℕ) → IsBound (class_of x g) → IsBound (class_of y g) → number_of x r ≡ number_of y r → x ≡ y

pub holds_none : Holds [] [] 0 []
holds_none = record { cells = λ x. tt; below = λ x b. absurd b; apart = λ x y b. absurd b }

-- ---- binders

cells_under : (t : Bool) (class : Class) (o : Option Class) (k n : ℕ) (c : Cell) (st : Store) → (IsBound o → k < n)
    → Fits (Some class) (Some c) → Fits o (cell_of k st)
    → Fits (cond t (Some class) o) (cell_of (cond t n k) ((n, c) ∷ st))
cells_under true class o k n c st lt f h = subst (Fits (Some class)) (sym (cell_here n c st)) f
cells_under false class o k n c st lt f h = fits_beside o k n c st lt h

pub below_under : (t : Bool) (class : Class) (o : Option Class) (k n : ℕ) → (IsBound o → k < n)
    → IsBound (cond t (Some class) o) → cond t n k < n + 1
below_under true class o k n lt b = omega arith
below_under false class o k n lt b = let small : k < n = lt b in omega arith

is_same : (x y : ℕ) → (x == y) ≡ true → x ≡ y
is_same x y e = grind (arith, nat_tests)

apart_under : (s t : Bool) (x y z : ℕ) (class : Class) (o p : Option Class) (j k n : ℕ) → (x == y) ≡ s → (x == z) ≡ t
    → (IsBound o → j < n) → (IsBound p → k < n) → (IsBound o → IsBound p → j ≡ k → y ≡ z)
    → IsBound (cond s (Some class) o) → IsBound (cond t (Some class) p) → cond s n j ≡ cond t n k → y ≡ z
apart_under true true x y z class o p j k n d e lt less h b c is = sym (is_same x y d) ∙ is_same x z e
apart_under true false x y z class o p j k n d e lt less h b c is =
    let small : k < n = less c in absurd (omega arith)
apart_under false true x y z class o p j k n d e lt less h b c is =
    let small : j < n = lt b in absurd (omega arith)
apart_under false false x y z class o p j k n d e lt less h b c is = h b c is

-- a binder of x as n, whose cell is the newest
pub holds_under : (g : Frame) (r : Numbers) (n : ℕ) (st : Store) (x : ℕ) (class : Class) (c : Cell) → Holds g r n st
    → Fits (Some class) (Some c) → Holds ((x, class) ∷ g) ((x, n) ∷ r) (n + 1) ((n, c) ∷ st)
holds_under g r n st x class c h f = record {
  cells =
      λ y. cells_under (x == y) class (class_of y g) (number_of y r) n c st (h.below y) f (h.cells y);
  below = λ y. below_under (x == y) class (class_of y g) (number_of y r) n (h.below y);
  apart =
      λ y z. apart_under (x == y) (x == z) x y z class (class_of y g) (class_of z g) (number_of y r) (number_of z r) n
      refl refl (h.below y) (h.below z) (h.apart y z);
}

-- a cell of n that no variable of the frame has
pub holds_beside : (g : Frame) (r : Numbers) (n : ℕ) (st : Store) (c : Cell) → Holds g r n st
    → Holds g r (n + 1) ((n, c) ∷ st)
holds_beside g r n st c h = record {
  cells = λ x. fits_beside (class_of x g) (number_of x r) n c st (h.below x) (h.cells x);
  below = λ x b. let small : number_of x r < n = h.below x b in omega arith;
  apart = h.apart;
}

-- ---- writes

cell_after : (t : Bool) (o : Option Class) (k j : ℕ) (d : Datum) (st : Store) → (k == j) ≡ t
    → (k ≡ j → IsWritten o) → Fits o (cell_of j st) → Fits o (cell_of j (put k d st))
cell_after true o k j d st e w h =
    let same : k ≡ j = is_same k j e in
    let at : cell_of j (put k d st) ≡ option_map (put_in d) (cell_of j st) =
    ap (λ (i : ℕ). cell_of j (put i d st)) same ∙ cell_put j d st in
    subst (Fits o) (sym at) (fits_put o d (cell_of j st) (w same) h)
cell_after false o k j d st e w h = subst (Fits o) (sym (cell_other k j d st e)) h

cell_bound : (o : Option Class) (k j : ℕ) (d : Datum) (st : Store) → (IsBound o → k ≡ j → IsWritten o)
    → Fits o (cell_of j st) → Fits o (cell_of j (put k d st))
cell_bound None k j d st w h = tt
cell_bound (Some class) k j d st w h = cell_after (k == j) (Some class) k j d st refl (w tt) h

holds_put : (g : Frame) (r : Numbers) (n : ℕ) (st : Store) (x : ℕ) (d : Datum) → Holds g r n st
    → IsWritten (class_of x g) → Holds g r n (put (number_of x r) d st)
holds_put g r n st x d h w = record {
  cells =
      λ y. cell_bound (class_of y g) (number_of x r) (number_of y r) d st
      (λ b e. subst (λ (z : ℕ). IsWritten (class_of z g)) (h.apart x y (bound (class_of x g) w) b e) w) (h.cells y);
  below = h.below;
  apart = h.apart;
}

pub holds_after : (g : Frame) (r : Numbers) (n : ℕ) (ws : Writes) (st : Store) → Holds g r n st → Written g ws
    → Holds g r n (after r ws st)
holds_after g r n [] st h w = h
holds_after g r n (v ∷ vs) st h w =
    holds_after g r n vs (put (number_of v.0 r) v.1 st) (holds_put g r n st v.0 v.1 h w.0) w.1

pub written_both : (g : Frame) (us vs : Writes) → Written g us → Written g vs → Written g (us ++ vs)
written_both g [] vs h k = k
written_both g (u ∷ us) vs h k = (h.0, written_both g us vs h.1 k)

-- ---- numbers of what is written

abbrev pub Below : Frame → Numbers → ℕ → Type 0
Below g r n = (x : ℕ) → IsBound (class_of x g) → number_of x r < n

pub all_below : (g : Frame) (r : Numbers) (n : ℕ) (ws : Writes) → Below g r n → Written g ws → AllBelow r n ws
all_below g r n [] h w = tt
all_below g r n (v ∷ vs) h w = (h v.0 (bound (class_of v.0 g) w.0), all_below g r n vs h w.1)

-- the class of another variable than the newest
other_class : (t : Bool) (class : Class) (o : Option Class) → t ≡ false → IsWritten (cond t (Some class) o)
    → IsWritten o
other_class true class o e w = absurd (cc)
other_class false class o e w = w

pub others_below : (g : Frame) (r : Numbers) (n x : ℕ) (class : Class) (ws : Writes) → Below g r n
    → Written ((x, class) ∷ g) ws → OthersBelow x r n ws
others_below g r n x class [] h w = tt
others_below g r n x class (v ∷ vs) h w = (
  λ e. h v.0
      (bound (class_of v.0 g) (other_class (x == v.0) class (class_of v.0 g) (turned v.0 x false e) w.0)),
  others_below g r n x class vs h w.1,
)

without_step : (t : Bool) (g : Frame) (x : ℕ) (class : Class) (v : ℕ × Datum) (vs us : Writes) → (v.0 == x) ≡ t
    → IsWritten (class_of v.0 ((x, class) ∷ g)) → Written g us → Written g (cond t us (v ∷ us))
without_step true g x class v vs us e w h = h
without_step false g x class v vs us e w h =
    (other_class (x == v.0) class (class_of v.0 g) (turned v.0 x false e) w, h)

-- what is written to others under a binder
pub written_without : (g : Frame) (x : ℕ) (class : Class) (ws : Writes) → Written ((x, class) ∷ g) ws
    → Written g (without x ws)
written_without g x class [] w = tt
written_without g x class (v ∷ vs) w =
    without_step (v.0 == x) g x class v vs (without x vs) refl w.0 (written_without g x class vs w.1)

-- ---- a variable that is read is not written to

not_read : (t : Bool) (o : Option Datum) (p : Option Class) → IsWritten (cond t (Some (Reads o)) p)
    → (t ≡ false) × IsWritten p
not_read true o p w = absurd w
not_read false o p w = (refl, w)

pub written_read : (g : Frame) (x : ℕ) (o : Option Datum) (ws : Writes) → Written ((x, Reads o) ∷ g) ws → Written g ws
written_read g x o [] w = tt
written_read g x o (v ∷ vs) w = ((not_read (x == v.0) o (class_of v.0 g) w.0).1, written_read g x o vs w.1)

pub after_read : (g : Frame) (r : Numbers) (n x : ℕ) (o : Option Datum) (ws : Writes) (st : Store)
    → Written ((x, Reads o) ∷ g) ws → after ((x, n) ∷ r) ws st ≡ after r ws st
after_read g r n x o [] st w = refl
after_read g r n x o (v ∷ vs) st w =
    let named : number_of v.0 ((x, n) ∷ r) ≡ number_of v.0 r =
    ap (λ (t : Bool). cond t n (number_of v.0 r)) (not_read (x == v.0) o (class_of v.0 g) w.0).0 in
    ap (λ (k : ℕ). after ((x, n) ∷ r) vs (put k v.1 st)) named
    ∙ after_read g r n x o vs (put (number_of v.0 r) v.1 st) w.1
