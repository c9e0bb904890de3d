-- The total order of data, canons, and sameness.
use Rattle.std.specs.Prelude.{ℕ, List, [], ◌∷◌, ◌≡◌, cond}
use Rattle.std.specs.Ordering.{nat_cmp, int_cmp, bool_cmp, ordering_then, is_gt}
use Rattle.std.specs.declared.cmp.Ordering.{Ordering}
use Rattle.std.specs.declared.cmp.Ordering.TheVariants.{Less, Equal, Greater}
use Rattle.qc_containers.specs.Rising.{text_cmp}
use Rattle.qc_data.specs.declared.data.Datum.{Datum}
use Rattle.qc_data.specs.declared.data.Datum.TheOpen.{Datum-F}
use Rattle.qc_data.specs.declared.data.Datum.TheViews.{out-Datum, roll-Datum}
use Rattle.qc_data.specs.declared.data.Datum.TheFolds.{fold-Datum}
use Rattle.qc_data.specs.declared.data.Datum.TheVariants.{Coll}

-- the place of a kind in the order
abbrev pub rank : {A : Type 0} → Datum-F A → ℕ
rank Datum-F.Unit = 0
rank (Datum-F.Bool b) = 1
rank (Datum-F.Int n) = 2
rank (Datum-F.Text s) = 3
rank (Datum-F.Coll ds) = 4
rank (Datum-F.Rec fs) = 5
rank (Datum-F.Left d) = 6
rank (Datum-F.Right d) = 7
rank (Datum-F.Brand n d) = 8

-- lists part by part, the first given by how its parts compare
abbrev pub list_cmp : {A : Type 0} → List (A → Ordering) → List A → Ordering
list_cmp [] [] = Equal
list_cmp [] (y ∷ ys) = Less
list_cmp (f ∷ fs) [] = Greater
list_cmp (f ∷ fs) (y ∷ ys) = ordering_then (f y) (list_cmp fs ys)

-- pairs part by part, each by name and then by value
abbrev pub pairs_cmp : {A : Type 0} → List (List ℕ × (A → Ordering)) → List (List ℕ × A) → Ordering
pairs_cmp [] [] = Equal
pairs_cmp [] (q ∷ qs) = Less
pairs_cmp (p ∷ ps) [] = Greater
pairs_cmp (p ∷ ps) (q ∷ qs) = ordering_then (ordering_then (text_cmp p.0 q.0) (p.1 q.1)) (pairs_cmp ps qs)

-- one layer against another
abbrev pub layer_cmp : {A : Type 0} → Datum-F (A → Ordering) → Datum-F A → Ordering
layer_cmp (Datum-F.Bool p) (Datum-F.Bool q) = bool_cmp p q
layer_cmp (Datum-F.Int m) (Datum-F.Int n) = int_cmp m n
layer_cmp (Datum-F.Text s) (Datum-F.Text t) = text_cmp s t
layer_cmp (Datum-F.Coll fs) (Datum-F.Coll ds) = list_cmp fs ds
layer_cmp (Datum-F.Rec fs) (Datum-F.Rec gs) = pairs_cmp fs gs
layer_cmp (Datum-F.Left f) (Datum-F.Left d) = f d
layer_cmp (Datum-F.Right f) (Datum-F.Right d) = f d
layer_cmp (Datum-F.Brand n f) (Datum-F.Brand m d) = ordering_then (text_cmp n m) (f d)
layer_cmp x y = nat_cmp (rank x) (rank y)

-- a datum against another, given how its parts compare
abbrev pub cmp_step : Datum-F (Datum → Ordering) → Datum → Ordering
cmp_step x d = layer_cmp x (out-Datum d)

-- how a datum stands to another in the total order
abbrev pub cmp : Datum → Datum → Ordering
cmp = fold-Datum (Datum → Ordering) cmp_step

-- the value before the first member that it is not greater than
abbrev pub insert_by : {X : Type 0} → (X → X → Ordering) → X → List X → List X
insert_by c x [] = x ∷ []
insert_by c x (y ∷ ys) = cond (is_gt (c x y)) (y ∷ insert_by c x ys) (x ∷ y ∷ ys)

-- the list in order; members that tie keep theirs
abbrev pub sort_by : {X : Type 0} → (X → X → Ordering) → List X → List X
sort_by c [] = []
sort_by c (x ∷ xs) = insert_by c x (sort_by c xs)

-- one layer, whose parts are canons
abbrev pub canon_step : Datum-F Datum → Datum
canon_step (Datum-F.Coll ds) = Coll (sort_by cmp ds)
canon_step x = roll-Datum x

-- every collection sorted by `cmp`, inner ones first
abbrev pub canon : Datum → Datum
canon = fold-Datum Datum canon_step

-- equal, where the order of a collection's members does not matter
abbrev pub Same : Datum → Datum → Type 0
Same a b = canon a ≡ canon b

-- a field against another: by name and then by value
abbrev pub pair_cmp : List ℕ × Datum → List ℕ × Datum → Ordering
pair_cmp p q = ordering_then (text_cmp p.0 q.0) (cmp p.1 q.1)
