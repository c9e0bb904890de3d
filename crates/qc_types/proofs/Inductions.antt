-- Induction over data and types: what holds of the parts.
use Rattle.std.proofs.Common.{◌≡◌, ℕ, List, [], ◌∷◌, map, Option, Some, None, Bool, true, false, cond, ap, subst, rules}
use Rattle.std.specs.Str.{bytes_eq}
use Rattle.qc_containers.specs.Pairs.{lookup}
use Rattle.qc_containers.specs.Rising.{on_value}
use Rattle.qc_data.specs.declared.data.Datum.{Datum}
use Rattle.qc_data.specs.declared.data.Datum.TheOpen.{Datum-F}
use Rattle.qc_data.specs.declared.data.Datum.TheViews.{out-Datum, roll-Datum, the_lemmas}
use Rattle.qc_data.specs.declared.data.Datum.TheFolds.{map-Datum, ind-Datum}
use Rattle.qc_types.specs.declared.ty.Ty.{Ty}
use Rattle.qc_types.specs.declared.ty.Ty.TheOpen.{Ty-F}
use Rattle.qc_types.specs.declared.ty.Ty.TheViews.{out-Ty, roll-Ty, the_lemmas as ty_lemmas}
use Rattle.qc_types.specs.declared.ty.Ty.TheFolds.{map-Ty, ind-Ty}

abbrev pub AllOf : {A : Type 0} → (A → Type 0) → List A → Type 0
AllOf P [] = Unit {0}
AllOf P (x ∷ xs) = P x × AllOf P xs

abbrev pub AllIn : {A : Type 0} → (A → Type 0) → List (List ℕ × A) → Type 0
AllIn P [] = Unit {0}
AllIn P (p ∷ ps) = P p.1 × AllIn P ps

in_cond : {A : Type 0} (P : A → Type 0) (b : Bool) (u a : A) (o : Option A) → P u → (o ≡ Some a → P a)
    → cond b (Some u) o ≡ Some a → P a
in_cond P true u a o h later e = let un : Option _ → _ = λ x. elim x [ Some v ↦ v | None ↦ u ] in subst P (ap un e) h
in_cond P false u a o h later e = later e

pub found : {A : Type 0} (P : A → Type 0) (ps : List (List ℕ × A)) → AllIn P ps → (n : List ℕ) (a : A)
    → lookup n ps ≡ Some a → P a
found P [] h n a e = absurd (cc)
found P (p ∷ ps) h n a e = in_cond P (bytes_eq p.0 n) p.1 a (lookup n ps) h.0 (λ k. found P ps h.1 n a k) e

abbrev pub Held : (Datum → Type 0) → Datum-F Datum → Type 0
Held P (Datum-F.Coll ds) = AllOf P ds
Held P (Datum-F.Rec fs) = AllIn P fs
Held P (Datum-F.Left d) = P d
Held P (Datum-F.Right d) = P d
Held P (Datum-F.Brand n d) = P d
Held P x = Unit {0}

all_held : {A : Type 0} (P : A → Type 0) (ws : List ((a : A) × P a)) → AllOf P (map (λ e. e.0) ws)
all_held P [] = tt
all_held P (w ∷ ws) = (w.1, all_held P ws)

row_held : {A : Type 0} (P : A → Type 0) (ws : List (List ℕ × ((a : A) × P a))) → AllIn P (map (on_value (λ e. e.0)) ws)
row_held P [] = tt
row_held P (w ∷ ws) = (w.1.1, row_held P ws)

held : (P : Datum → Type 0) (w : Datum-F ((d : Datum) × P d))
    → Held P (map-Datum ((d : Datum) × P d) Datum (λ e. e.0) w)
held P (Datum-F.Coll ws) = all_held P ws
held P (Datum-F.Rec ws) = row_held P ws
held P (Datum-F.Left w) = w.1
held P (Datum-F.Right w) = w.1
held P (Datum-F.Brand n w) = w.1
held P x = tt

pub datum_ind : (P : Datum → Type 0) → ((x : Datum-F Datum) → Held P x → P (roll-Datum x)) → (d : Datum) → P d
datum_ind P f = ind-Datum P (λ x w is. f x (subst (Held P) is (held P w)))

abbrev pub HeldTy : (Ty → Type 0) → Ty-F Ty → Type 0
HeldTy P (Ty-F.Coll t) = P t
HeldTy P (Ty-F.Rec w ts) = AllIn P ts
HeldTy P (Ty-F.Either t u) = P t × P u
HeldTy P x = Unit {0}

held_ty : (P : Ty → Type 0) (w : Ty-F ((t : Ty) × P t)) → HeldTy P (map-Ty ((t : Ty) × P t) Ty (λ e. e.0) w)
held_ty P (Ty-F.Coll w) = w.1
held_ty P (Ty-F.Rec v ws) = row_held P ws
held_ty P (Ty-F.Either w v) = (w.1, v.1)
held_ty P x = tt

pub ty_ind : (P : Ty → Type 0) → ((x : Ty-F Ty) → HeldTy P x → P (roll-Ty x)) → (t : Ty) → P t
ty_ind P f = ind-Ty P (λ x w is. f x (subst (HeldTy P) is (held_ty P w)))

pub out-roll : (x : Datum-F Datum) → out-Datum (roll-Datum x) ≡ x
out-roll x = search (rules, the_lemmas)

pub roll-out : (d : Datum) → roll-Datum (out-Datum d) ≡ d
roll-out d = search (rules, the_lemmas)

pub out-roll-Ty : (x : Ty-F Ty) → out-Ty (roll-Ty x) ≡ x
out-roll-Ty x = search (rules, ty_lemmas)

pub roll-out-Ty : (t : Ty) → roll-Ty (out-Ty t) ≡ t
roll-out-Ty t = search (rules, ty_lemmas)
