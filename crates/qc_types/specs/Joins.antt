-- The join of two types: a type above both, where there is one.
use Rattle.std.specs.Prelude.{ℕ, Bool, true, ◌&&◌, List, [], ◌∷◌, Option, Some, None, option_map, IsTrue}
use Rattle.qc_containers.specs.Pairs.{lookup}
use Rattle.qc_types.specs.declared.ty.Width.{Width}
use Rattle.qc_types.specs.declared.ty.Width.TheVariants.{Exact, Wide}
use Rattle.qc_types.specs.declared.ty.Ty.{Ty}
use Rattle.qc_types.specs.declared.ty.Ty.TheOpen.{Ty-F}
use Rattle.qc_types.specs.declared.ty.Ty.TheViews.{out-Ty, roll-Ty}
use Rattle.qc_types.specs.declared.ty.Ty.TheVariants as ty
use Rattle.qc_types.specs.declared.ty.Ty.TheFolds.{map-Ty, para-Ty}
use Rattle.qc_types.specs.Rows.{names, same_names}
use Rattle.qc_types.specs.Classes.{Defs, common}
use Rattle.qc_types.specs.Types.{sub}

-- what two fields have, if both are there and join
abbrev pub joined : {A B : Type 0} → (A → B → Option Ty) → Option A → Option B → Option Ty
joined j None y = None
joined j (Some a) None = None
joined j (Some a) (Some b) = j a b

-- the field first, if there is a type for it
abbrev pub put_some : List ℕ → Option Ty → List (List ℕ × Ty) → List (List ℕ × Ty)
put_some n None r = r
put_some n (Some t) r = (n, t) ∷ r

-- those of the names that both have, with types that join
abbrev pub shared : {A B : Type 0} → (A → B → Option Ty) → List (List ℕ) → List (List ℕ × A) → List (List ℕ × B)
    → List (List ℕ × Ty)
shared j [] ps qs = []
shared j (n ∷ ns) ps qs = put_some n (joined j (lookup n ps) (lookup n qs)) (shared j ns ps qs)

-- Exact where both are and the names are the same
abbrev pub width_of : Width → Width → Bool → Width
width_of Exact Exact true = Exact
width_of _ _ _ = Wide

-- the record of the row r that two records with names ns and ms share: Exact where both are, with the same names, which
-- all join
abbrev pub row_join : List (List ℕ) → List (List ℕ) → Width → Width → List (List ℕ × Ty) → Ty
row_join ns ms w v r = ty.Rec (width_of w v (same_names ns ms && same_names (names r) ns)) r

-- the type of the two sides, if both are there
abbrev pub either : Option Ty → Option Ty → Option Ty
either None y = None
either (Some a) None = None
either (Some a) (Some b) = Some (ty.Either a b)

-- one level against one, with the first's parts by u and the joins of parts by j
abbrev pub join_layer : {A : Type 0} → Defs → (A → Ty) → (A → Ty → Option Ty) → Ty-F A → Ty-F Ty → Option Ty
join_layer c u j Ty-F.Bottom y = Some (roll-Ty y)
join_layer {A} c u j x Ty-F.Bottom = Some (roll-Ty (map-Ty A Ty u x))
join_layer c u j Ty-F.Unit Ty-F.Unit = Some ty.Unit
join_layer c u j Ty-F.Bool Ty-F.Bool = Some ty.Bool
join_layer c u j Ty-F.Int Ty-F.Int = Some ty.Int
join_layer c u j Ty-F.Text Ty-F.Text = Some ty.Text
join_layer c u j (Ty-F.Coll a) (Ty-F.Coll b) = option_map (λ t. ty.Coll t) (j a b)
join_layer c u j (Ty-F.Rec w ps) (Ty-F.Rec v qs) = Some (row_join (names ps) (names qs) w v (shared j (names ps) ps qs))
join_layer c u j (Ty-F.Either a b) (Ty-F.Either d e) = either (j a d) (j b e)
join_layer c u j (Ty-F.Brand n) (Ty-F.Brand m) = option_map (λ k. ty.Brand k) (common c n m)
join_layer c u j _ _ = None

-- one layer of a type, given its parts and their joins
abbrev pub join_step : Defs → Ty-F (Ty × (Ty → Option Ty)) → Ty → Option Ty
join_step c x t = join_layer c (λ e. e.0) (λ e s. e.1 s) x (out-Ty t)

-- the join of two types
abbrev pub join : Defs → Ty → Ty → Option Ty
join c = para-Ty (Ty → Option Ty) (join_step c)

-- the type, if there is one, is above both
abbrev pub AboveBoth : Defs → Ty → Ty → Option Ty → Type 0
AboveBoth c a b None = Unit {0}
AboveBoth c a b (Some t) = IsTrue (sub c a t) × IsTrue (sub c b t)
