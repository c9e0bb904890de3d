-- What holds of good classes: below is an order, shapes go down, and so subtyping is transitive and data fit what is
-- above.
use Rattle.std.proofs.Common.{◌≡◌, ℕ, suc, ◌≤◌, List, [], ◌∷◌, length, Option, Some, None, Bool, true, false, ◌&&◌}
use Rattle.std.proofs.Common.{◌||◌, cond, IsTrue, refl, sym, ap, ◌∙◌, subst, rules, arith}
use Rattle.std.specs.Prelude.{is_some, option_map, not}
use Rattle.std.specs.Str.{bytes_eq}
use Rattle.std.proofs.lemmas.Slice.Eq.{bytes_eq-Decides}
use Rattle.qc_containers.proofs.Truth.{not_true}
use Rattle.qc_data.specs.declared.data.Datum.{Datum, the_lemmas as datum_lemmas}
use Rattle.qc_data.specs.declared.data.Datum.TheOpen.{Datum-F}
use Rattle.qc_data.specs.declared.data.Datum.TheViews.{out-Datum}
use Rattle.qc_data.specs.declared.data.Datum.TheVariants as D
use Rattle.qc_types.specs.declared.ty.ClassDef.{ClassDef}
use Rattle.qc_types.specs.declared.ty.Ty.{Ty, the_lemmas}
use Rattle.qc_types.specs.declared.ty.Ty.TheOpen.{Ty-F}
use Rattle.qc_types.specs.declared.ty.Ty.TheViews.{out-Ty}
use Rattle.qc_types.specs.declared.ty.Ty.TheVariants as ty
use Rattle.qc_types.specs.Classes.{Defs, below, chain, class_of, is_in, listed, parents, shape}
use Rattle.qc_types.specs.inner.Places.{New}
use Rattle.qc_types.specs.Schemas.{extends, good_class, good_classes, good_part, is_under, lists, user}
use Rattle.qc_types.specs.Types.{content, fits, sub}
use Rattle.qc_types.proofs.RowLaws.{and_parts}
use Rattle.qc_types.proofs.TypeLaws.{Along, fits_out, fits_mono-along, sub_refl, sub_trans-along}

or_right : (a b : Bool) → IsTrue b → IsTrue (a || b)
or_right true b h = refl
or_right false b h = h

or_either : (P : Type 0) (a b : Bool) → IsTrue (a || b) → (IsTrue a → P) → (IsTrue b → P) → P
or_either P true b h f g = f refl
or_either P false b h f g = g h

-- ---- a class that comes after the classes ds

module _ (d : ClassDef) (ds : Defs) (a : List ℕ) where
  chain-here : bytes_eq d.name a ≡ true → chain (d ∷ ds) a ≡ a ∷ parents (λ p. chain ds p) d.parent
  chain-here e = rw e refl

  chain-later : bytes_eq d.name a ≡ false → chain (d ∷ ds) a ≡ chain ds a
  chain-later e = rw e refl

  shape-here : bytes_eq d.name a ≡ true → shape (d ∷ ds) a ≡ Some d.shape
  shape-here e = rw e refl

  shape-later : bytes_eq d.name a ≡ false → shape (d ∷ ds) a ≡ shape ds a
  shape-later e = rw e refl

  listed-here : bytes_eq d.name a ≡ true → IsTrue (listed (d ∷ ds) a)
  listed-here e = rw e refl

  listed-later : (k : Bool) → bytes_eq d.name a ≡ k → IsTrue (listed ds a) → IsTrue (listed (d ∷ ds) a)
  listed-later true e h = rw e refl
  listed-later false e h = rw e h

  -- where the class's name is new, it is none of the earlier ones
  pub other : listed ds d.name ≡ false → IsTrue (listed ds a) → (k : Bool) → bytes_eq d.name a ≡ k → k ≡ false
  other fresh h true e =
      let same : d.name ≡ a = (bytes_eq-Decides d.name a).0 e in let t : listed ds d.name ≡ true = rw same h in
      absurd (cc)
  other fresh h false e = refl

in_parents : (ds : Defs) (b : List ℕ) (o : Option (List ℕ)) → IsTrue (is_in b (parents (λ p. chain ds p) o))
    → (p : List ℕ) × (o ≡ Some p) × IsTrue (is_in b (chain ds p))
in_parents ds b None h = absurd (cc)
in_parents ds b (Some p) h = (p, refl, h)

-- ---- chains end, and hold listed classes

parents-length : (ds : Defs) (n : ℕ) → ((p : List ℕ) → length (chain ds p) ≤ n) → (o : Option (List ℕ))
    → length (parents (λ p. chain ds p) o) ≤ n
parents-length ds n h None = omega arith
parents-length ds n h (Some p) = h p

-- a chain has no more classes than there are
pub chain_ends : (c : Defs) (a : List ℕ) → length (chain c a) ≤ length c
chain_ends [] a = omega arith
chain_ends (d ∷ ds) a =
    elim (bytes_eq d.name a) as (λ k. length (cond k (a ∷ parents (λ p. chain ds p) d.parent) (chain ds a)) ≤ suc
    (length ds)) [
      | true ↦ omega (arith, parents-length ds (length ds) (chain_ends ds) d.parent)
      | false ↦ omega (arith, chain_ends ds a)
    ]

module _ (d : ClassDef) (ds : Defs) where
  above_at : ((a b : List ℕ) → IsTrue (is_in b (chain ds a)) → IsTrue (listed ds b)) → (a b : List ℕ) (k : Bool)
      → bytes_eq d.name a ≡ k → IsTrue (is_in b (chain (d ∷ ds) a)) → IsTrue (listed (d ∷ ds) b)
  above_at ih a b true e h =
      let P : List (List ℕ) → Type 0 = λ l. IsTrue (is_in b l) in
      or_either (IsTrue (listed (d ∷ ds) b)) (bytes_eq a b) (is_in b (parents (λ p. chain ds p) d.parent))
      (subst P (chain-here d ds a e) h)
      (λ i. let same : a ≡ b = (bytes_eq-Decides a b).0 i in listed-here d ds b (rw (← same) e))
      (λ i. let w = in_parents ds b d.parent i in listed-later d ds b (bytes_eq d.name b) refl (ih w.0 b w.2))
  above_at ih a b false e h =
      let P : List (List ℕ) → Type 0 = λ l. IsTrue (is_in b l) in
      listed-later d ds b (bytes_eq d.name b) refl (ih a b (subst P (chain-later d ds a e) h))

-- what is above a class is listed
pub above_listed : (c : Defs) (a b : List ℕ) → IsTrue (below c a b) → IsTrue (listed c b)
above_listed [] a b h = absurd (cc)
above_listed (d ∷ ds) a b h = above_at d ds (above_listed ds) a b (bytes_eq d.name a) refl h

-- ---- new names alone: below is transitive

module _ (d : ClassDef) (ds : Defs) (new : listed ds d.name ≡ false) where
  later_chain : (x b : List ℕ) → IsTrue (listed ds b) → IsTrue (is_in x (chain (d ∷ ds) b))
      → IsTrue (is_in x (chain ds b))
  later_chain x b h j =
      let P : List (List ℕ) → Type 0 = λ l. IsTrue (is_in x l) in
      subst P (chain-later d ds b (other d ds b new h (bytes_eq d.name b) refl)) j

  along_at : Along ds → (a b x : List ℕ) (k : Bool) → bytes_eq d.name a ≡ k → IsTrue (is_in b (chain (d ∷ ds) a))
      → IsTrue (is_in x (chain (d ∷ ds) b)) → IsTrue (is_in x (chain (d ∷ ds) a))
  along_at ih a b x true e h j =
      let P : List (List ℕ) → Type 0 = λ l. IsTrue (is_in b l) in
      let Q : List (List ℕ) → Type 0 = λ l. IsTrue (is_in x l) in
      let R : List ℕ → Type 0 = λ y. IsTrue (is_in x (chain (d ∷ ds) y)) in
      let S : Option (List ℕ) → Type 0 = λ o. IsTrue (is_in x (parents (λ p. chain ds p) o)) in
      or_either (IsTrue (is_in x (chain (d ∷ ds) a))) (bytes_eq a b) (is_in b (parents (λ p. chain ds p) d.parent))
      (subst P (chain-here d ds a e) h)
      (λ i. subst R (sym ((bytes_eq-Decides a b).0 i)) j)
      (λ i. let w = in_parents ds b d.parent i in
      let up = ih w.0 b x w.2 (later_chain x b (above_listed ds w.0 b w.2) j) in
      subst Q (sym (chain-here d ds a e))
      (or_right (bytes_eq a x) (is_in x (parents (λ p. chain ds p) d.parent)) (subst S (sym w.1) up)))
  along_at ih a b x false e h j =
      let P : List (List ℕ) → Type 0 = λ l. IsTrue (is_in b l) in
      let Q : List (List ℕ) → Type 0 = λ l. IsTrue (is_in x l) in
      let i = subst P (chain-later d ds a e) h in
      subst Q (sym (chain-later d ds a e)) (ih a b x i (later_chain x b (above_listed ds a b i) j))

pub along_new : (ds : Defs) → New ds → Along ds
along_new [] n a b x h j = absurd (cc)
along_new (d ∷ ds) n a b x h j = along_at d ds n.0 (along_new ds n.1) a b x (bytes_eq d.name a) refl h j

new_good : (c ds : Defs) → IsTrue (good_part c ds) → New ds
new_good c [] g = tt
new_good c (d ∷ ds) g =
    let p = and_parts (good_class c ds d) (good_part c ds) g in
    let q = and_parts (user d.name) (not (listed ds d.name)
    && (lists c d.shape && extends c ds d.parent d.shape)) p.0 in
    let r = and_parts (not (listed ds d.name)) (lists c d.shape && extends c ds d.parent d.shape) q.1 in
    (not_true (listed ds d.name) r.0, new_good c ds p.1)

-- a class is below what those above it are below
pub below_trans : (c : Defs) → IsTrue (good_classes c) → (a b d : List ℕ) → IsTrue (below c a b) → IsTrue (below c b d)
    → IsTrue (below c a d)
below_trans c g = along_new c (new_good c c g)

pub sub_trans : (c : Defs) → IsTrue (good_classes c) → (a b d : Ty) → IsTrue (sub c a b) → IsTrue (sub c b d)
    → IsTrue (sub c a d)
sub_trans c g = sub_trans-along c (below_trans c g)

-- a datum that fits a type fits each type above it
pub fits_mono : (c : Defs) → IsTrue (good_classes c) → (d : Datum) (a b : Ty) → IsTrue (fits c d a) → IsTrue (sub c a b)
    → IsTrue (fits c d b)
fits_mono c g = fits_mono-along c (below_trans c g)

-- ---- shapes go down

under : (c : Defs) (t : Ty) (o : Option Ty) → IsTrue (is_under c t o) → (u : Ty) × (o ≡ Some u) × IsTrue (sub c t u)
under c t None h = absurd (cc)
under c t (Some u) h = (u, refl, h)

some_same : {s t : Ty} → ◌≡◌ {A = Option Ty} (Some s) (Some t) → s ≡ t
some_same {s} e = let un : Option Ty → Ty = λ o. elim o [ Some v ↦ v | None ↦ s ] in ap un e

module _ (c : Defs) (g : Along c) where
  abbrev Down : Defs → Type 0
  Down ds =
      (a b : List ℕ) (s t : Ty) → IsTrue (is_in b (chain ds a)) → shape ds a ≡ Some s → shape ds b ≡ Some t
      → IsTrue (sub c s t)

  down_at : (d : ClassDef) (ds : Defs) → listed ds d.name ≡ false → IsTrue (extends c ds d.parent d.shape) → Down ds
      → (a b : List ℕ) (s t : Ty) (k : Bool) → bytes_eq d.name a ≡ k
      → IsTrue (is_in b (chain (d ∷ ds) a)) → shape (d ∷ ds) a ≡ Some s → shape (d ∷ ds) b ≡ Some t → IsTrue (sub c s t)
  down_at d ds new ext ih a b s t true e h es et =
      let P : List (List ℕ) → Type 0 = λ l. IsTrue (is_in b l) in
      let Q : Option (List ℕ) → Type 0 = λ o. IsTrue (extends c ds o d.shape) in
      let R : Ty → Type 0 = λ u. IsTrue (sub c s u) in
      let S : Ty → Type 0 = λ u. IsTrue (sub c u t) in
      or_either (IsTrue (sub c s t)) (bytes_eq a b) (is_in b (parents (λ p. chain ds p) d.parent))
      (subst P (chain-here d ds a e) h)
      (λ i. let same : s ≡ t = some_same (sym es ∙ ap (shape (d ∷ ds)) ((bytes_eq-Decides a b).0 i) ∙ et) in
      subst R same (sub_refl c s))
      (λ i. let w = in_parents ds b d.parent i in
      let o = under c d.shape (shape ds w.0) (subst Q w.1 ext) in
      let later =
      sym (shape-later d ds b (other d ds b new (above_listed ds w.0 b w.2) (bytes_eq d.name b) refl)) ∙ et in
      subst S (some_same (sym (shape-here d ds a e) ∙ es))
      (sub_trans-along c g d.shape o.0 t o.2 (ih w.0 b o.0 t w.2 o.1 later)))
  down_at d ds new ext ih a b s t false e h es et =
      let P : List (List ℕ) → Type 0 = λ l. IsTrue (is_in b l) in
      let i = subst P (chain-later d ds a e) h in
      let later = sym (shape-later d ds b (other d ds b new (above_listed ds a b i) (bytes_eq d.name b) refl)) ∙ et in
      ih a b s t i (sym (shape-later d ds a e) ∙ es) later

  down_good : (ds : Defs) → IsTrue (good_part c ds) → Down ds
  down_good [] h a b s t i es et = absurd (cc)
  down_good (d ∷ ds) h a b s t i es et =
      let p = and_parts (good_class c ds d) (good_part c ds) h in
      let q = and_parts (user d.name) (not (listed ds d.name)
      && (lists c d.shape && extends c ds d.parent d.shape)) p.0 in
      let r = and_parts (not (listed ds d.name)) (lists c d.shape && extends c ds d.parent d.shape) q.1 in
      let x = and_parts (lists c d.shape) (extends c ds d.parent d.shape) r.1 in
      down_at d ds (not_true (listed ds d.name) r.0) x.1 (down_good ds p.1) a b s t (bytes_eq d.name a) refl i es et

-- the shape of a class is below those of the classes above it
pub shapes_down : (c : Defs) → IsTrue (good_classes c) → (a b : List ℕ) (s t : Ty) → IsTrue (below c a b)
    → shape c a ≡ Some s → shape c b ≡ Some t → IsTrue (sub c s t)
shapes_down c g = down_good c (below_trans c g) c g

-- ---- class values

some_shape : (o : Option ClassDef) → IsTrue (is_some o) → (t : Ty) × (option_map (λ (d : ClassDef). d.shape) o ≡ Some t)
some_shape None h = absurd (cc)
some_shape (Some d) h = (d.shape, refl)

-- a class above another has a shape
pub shaped : (c : Defs) (a b : List ℕ) → IsTrue (below c a b) → (t : Ty) × (shape c b ≡ Some t)
shaped c a b h = some_shape (class_of c b) (above_listed c a b h)

out-Brand : (n : List ℕ) → out-Ty (ty.Brand n) ≡ Ty-F.Brand n
out-Brand n = search (rules, the_lemmas)

out-Brand-Datum : (n : List ℕ) (d : Datum) → out-Datum (D.Brand n d) ≡ Datum-F.Brand n d
out-Brand-Datum n d = search (rules, datum_lemmas)

-- a class value is of a class where its own class is below, and its content fits its own class's shape
pub fits_class : (c : Defs) (n m : List ℕ) (d : Datum)
    → fits c (D.Brand n d) (ty.Brand m) ≡ (below c n m && content (fits c) d (shape c n))
fits_class c n m d = fits_out c (D.Brand n d) (ty.Brand m) ∙ rw (out-Brand-Datum n d, out-Brand m) refl

content_some : (c : Defs) (d : Datum) (o : Option Ty) → IsTrue (content (fits c) d o)
    → (s : Ty) × (o ≡ Some s) × IsTrue (fits c d s)
content_some c d None h = absurd (cc)
content_some c d (Some s) h = (s, refl, h)

-- its content fits the shape of each class that it is of
pub content_fits : (c : Defs) → IsTrue (good_classes c) → (n m : List ℕ) (d : Datum)
    → IsTrue (fits c (D.Brand n d) (ty.Brand m)) → (t : Ty) × (shape c m ≡ Some t) × IsTrue (fits c d t)
content_fits c g n m d h =
    let p = and_parts (below c n m) (content (fits c) d (shape c n)) (sym (fits_class c n m d) ∙ h) in
    let o = content_some c d (shape c n) p.1 in
    let w = shaped c n m p.0 in
    (w.0, w.1, fits_mono c g d o.0 w.0 o.2 (shapes_down c g n m o.0 w.0 p.0 o.1 w.1))
