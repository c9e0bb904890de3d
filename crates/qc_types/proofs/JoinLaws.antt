-- A join is above both.
use Rattle.std.proofs.Common.{◌≡◌, ℕ, List, [], ◌∷◌, map, Option, Some, None, Bool, true, false, ◌&&◌, ◌||◌, cond}
use Rattle.std.proofs.Common.{IsTrue, refl, sym, ap, ◌∙◌, subst, rules}
use Rattle.std.specs.Prelude.{is_some, option_map, Result, Ok, Err, IfOk}
use Rattle.std.specs.Str.{bytes_eq}
use Rattle.std.proofs.lemmas.Slice.Eq.{bytes_eq-Decides}
use Rattle.qc_containers.specs.Pairs.{lookup}
use Rattle.qc_containers.specs.Rising.{on_value}
use Rattle.qc_types.specs.declared.ty.Width.{Width}
use Rattle.qc_types.specs.declared.ty.Width.TheVariants.{Exact, Wide}
use Rattle.qc_types.specs.declared.ty.Ty.{Ty, the_lemmas}
use Rattle.qc_types.specs.declared.ty.Ty.TheOpen.{Ty-F}
use Rattle.qc_types.specs.declared.ty.Ty.TheViews.{out-Ty, roll-Ty}
use Rattle.qc_types.specs.declared.ty.Ty.TheVariants as ty
use Rattle.qc_types.specs.declared.ty.Ty.TheFolds.{map-Ty, para-roll-Ty}
use Rattle.qc_types.specs.Rows.{names, same_names, at_field, has_fields}
use Rattle.qc_types.specs.Classes.{Defs, below, is_in, chain, first_above}
use Rattle.qc_types.specs.Types.{sub, sub_layer}
use Rattle.qc_types.specs.Joins.{joined, put_some, shared, width_of, row_join, either, join_layer, join_step, join}
use Rattle.qc_types.specs.Joins.{AboveBoth as Up}
use Rattle.qc_types.proofs.RowLaws.{and_parts, both, lookup-map, names-map, has_from, at_none, same_names-is}
use Rattle.qc_types.proofs.RowLaws.{same_names-refl}
use Rattle.qc_types.proofs.Inductions.{AllOf, AllIn, found, HeldTy, ty_ind, out-roll-Ty, roll-out-Ty}
use Rattle.qc_types.proofs.TypeLaws.{sub_roll, sub_refl}

joined-map : {A B D : Type 0} (j : B → D → Option Ty) (h : A → B) (x : Option A) (y : Option D)
    → joined j (option_map h x) y ≡ joined (λ a d. j (h a) d) x y
joined-map j h None y = refl
joined-map j h (Some a) None = refl
joined-map j h (Some a) (Some d) = refl

shared-map : {A B D : Type 0} (j : B → D → Option Ty) (h : A → B) (ns : List (List ℕ)) (ps : List (List ℕ × A))
    (qs : List (List ℕ × D)) → shared j ns (map (on_value h) ps) qs ≡ shared (λ a d. j (h a) d) ns ps qs
shared-map j h [] ps qs = refl
shared-map j h (n ∷ ns) ps qs =
    λ i. put_some n ((ap (λ o. joined j o (lookup n qs)) (lookup-map h n ps)
    ∙ joined-map j h (lookup n ps) (lookup n qs)) i) (shared-map j h ns ps qs i)

map-id : {A : Type 0} (h : A → A) → ((a : A) → h a ≡ a) → (ps : List (List ℕ × A)) → map (on_value h) ps ≡ ps
map-id h e [] = refl
map-id h e (p ∷ ps) = λ i. (p.0, e p.1 i) ∷ map-id h e ps i

map-map : {A B C : Type 0} (f : A → B) (g : B → C) (ps : List (List ℕ × A))
    → map (on_value g) (map (on_value f) ps) ≡ map (on_value (λ a. g (f a))) ps
map-map f g [] = refl
map-map f g (p ∷ ps) = ap (λ (l : List (List ℕ × _)). (p.0, g (f p.1)) ∷ l) (map-map f g ps)

abbrev Pairs : Type 0
Pairs = Ty × (Ty → Option Ty)

back : (h : Ty → Pairs) → ((t : Ty) → (h t).0 ≡ t) → (x : Ty-F Ty)
    → map-Ty Pairs Ty (λ e. e.0) (map-Ty Ty Pairs h x) ≡ x
back h e Ty-F.Bottom = refl
back h e Ty-F.Unit = refl
back h e Ty-F.Bool = refl
back h e Ty-F.Int = refl
back h e Ty-F.Text = refl
back h e (Ty-F.Coll t) = ap (λ s. Ty-F.Coll s) (e t)
back h e (Ty-F.Rec w ts) = ap (λ l. Ty-F.Rec w l) (map-map h (λ (p : Pairs). p.0) ts ∙ map-id (λ t. (h t).0) e ts)
back h e (Ty-F.Either t u) = λ i. Ty-F.Either (e t i) (e u i)
back h e (Ty-F.Brand n) = refl

ident : (x : Ty-F Ty) → map-Ty Ty Ty (λ t. t) x ≡ x
ident (Ty-F.Rec w ts) = ap (λ l. Ty-F.Rec w l) (map-id (λ t. t) (λ t. refl) ts)
ident Ty-F.Bottom = refl
ident x = refl

layer-map : (c : Defs) (j : Ty → Ty → Option Ty) (x y : Ty-F Ty)
    → join_layer {A = Pairs} c (λ e. e.0) (λ e s. e.1 s) (map-Ty Ty Pairs (λ t. (t, j t)) x) y
    ≡ join_layer c (λ t. t) j x y
layer-map c j Ty-F.Bottom y = refl
layer-map c j (Ty-F.Rec w ps) Ty-F.Bottom =
    ap (λ l. Some (roll-Ty (Ty-F.Rec w l))) (map-map (λ t. (t, j t)) (λ (e : Pairs). e.0) ps)
layer-map c j (Ty-F.Rec w ps) (Ty-F.Rec v qs) =
    let h : Ty → Pairs = λ t. (t, j t) in
    rw (names-map h ps, shared-map (λ (e : Pairs) s. e.1 s) h (names ps) ps qs) refl
layer-map c j x y = refl

pub join_roll : (c : Defs) (x : Ty-F Ty) (t : Ty) → join c (roll-Ty x) t ≡ join_layer c (λ s. s) (join c) x (out-Ty t)
join_roll c x t =
    ap (λ (f : Ty → Option Ty). f t) (para-roll-Ty (Ty → Option Ty) (join_step c) x) ∙ layer-map c (join c) x (out-Ty t)

out-Coll : (t : Ty) → out-Ty (ty.Coll t) ≡ Ty-F.Coll t
out-Coll t = search (rules, the_lemmas)

out-Either : (t u : Ty) → out-Ty (ty.Either t u) ≡ Ty-F.Either t u
out-Either t u = search (rules, the_lemmas)

out-Rec : (w : Width) (ts : List (List ℕ × Ty)) → out-Ty (ty.Rec w ts) ≡ Ty-F.Rec w ts
out-Rec w ts = search (rules, the_lemmas)

out-Brand : (n : List ℕ) → out-Ty (ty.Brand n) ≡ Ty-F.Brand n
out-Brand n = search (rules, the_lemmas)

out-Unit : out-Ty ty.Unit ≡ Ty-F.Unit
out-Unit = search (rules, the_lemmas)

out-Bool : out-Ty ty.Bool ≡ Ty-F.Bool
out-Bool = search (rules, the_lemmas)

out-Int : out-Ty ty.Int ≡ Ty-F.Int
out-Int = search (rules, the_lemmas)

out-Text : out-Ty ty.Text ≡ Ty-F.Text
out-Text = search (rules, the_lemmas)

module _ (c : Defs) where
  sub_is : (x : Ty-F Ty) (t : Ty) (y : Ty-F Ty) → out-Ty t ≡ y → IsTrue (sub_layer c (sub c) x y)
      → IsTrue (sub c (roll-Ty x) t)
  sub_is x t y e h = sub_roll c x t ∙ ap (sub_layer c (sub c) x) e ∙ h

  up_coll : (a b : Ty) (o : Option Ty) → Up c a b o
      → Up c (roll-Ty (Ty-F.Coll a)) (roll-Ty (Ty-F.Coll b)) (option_map (λ t. ty.Coll t) o)
  up_coll a b None u = tt
  up_coll a b (Some t) u = (
    sub_is (Ty-F.Coll a) (ty.Coll t) (Ty-F.Coll t) (out-Coll t) u.0,
    sub_is (Ty-F.Coll b) (ty.Coll t) (Ty-F.Coll t) (out-Coll t) u.1,
  )

  up_either : (a b d e : Ty) (o p : Option Ty) → Up c a d o → Up c b e p
      → Up c (roll-Ty (Ty-F.Either a b)) (roll-Ty (Ty-F.Either d e)) (either o p)
  up_either a b d e None p u v = tt
  up_either a b d e (Some s) None u v = tt
  up_either a b d e (Some s) (Some t) u v = (
    sub_is (Ty-F.Either a b) (ty.Either s t) (Ty-F.Either s t) (out-Either s t)
        (both (sub c a s) (sub c b t) u.0 v.0),
    sub_is (Ty-F.Either d e) (ty.Either s t) (Ty-F.Either s t) (out-Either s t)
        (both (sub c d s) (sub c e t) u.1 v.1),
  )

  -- ---- classes
  or_right : (a b : Bool) → IsTrue b → IsTrue (a || b)
  or_right true b h = refl
  or_right false b h = h

  or_left : (a b : Bool) → IsTrue a → IsTrue (a || b)
  or_left a b h = rw h refl

  brand_up : (n m k : List ℕ) → IsTrue (bytes_eq n k || below c n k) → IsTrue (bytes_eq m k || below c m k)
      → Up c (roll-Ty (Ty-F.Brand n)) (roll-Ty (Ty-F.Brand m)) (Some (ty.Brand k))
  brand_up n m k h i = (
    sub_is (Ty-F.Brand n) (ty.Brand k) (Ty-F.Brand k) (out-Brand k) h,
    sub_is (Ty-F.Brand m) (ty.Brand k) (Ty-F.Brand k) (out-Brand k) i,
  )

  first_cond : (n m k : List ℕ) (o : Option (List ℕ)) (b : Bool) → below c m k ≡ b → IsTrue (below c n k)
      → Up c (roll-Ty (Ty-F.Brand n)) (roll-Ty (Ty-F.Brand m)) (option_map (λ l. ty.Brand l) o)
      → Up c (roll-Ty (Ty-F.Brand n)) (roll-Ty (Ty-F.Brand m)) (option_map (λ l. ty.Brand l) (cond b (Some k) o))
  first_cond n m k o true e h u =
      brand_up n m k (or_right (bytes_eq n k) (below c n k) h) (or_right (bytes_eq m k) (below c m k) e)
  first_cond n m k o false e h u = u

  first_up : (n m : List ℕ) (ks : List (List ℕ)) → AllOf (λ k. IsTrue (below c n k)) ks
      → Up c (roll-Ty (Ty-F.Brand n)) (roll-Ty (Ty-F.Brand m)) (option_map (λ l. ty.Brand l) (first_above c m ks))
  first_up n m [] h = tt
  first_up n m (k ∷ ks) h = first_cond n m k (first_above c m ks) (below c m k) refl h.0 (first_up n m ks h.1)

  common_up : (n m : List ℕ) (b : Bool) → bytes_eq n m ≡ b → AllOf (λ k. IsTrue (below c n k)) (chain c n)
      → Up c (roll-Ty (Ty-F.Brand n)) (roll-Ty (Ty-F.Brand m))
      (option_map (λ l. ty.Brand l) (cond b (Some n) (first_above c m (chain c n))))
  common_up n m true e h = let same : n ≡ m = (bytes_eq-Decides n m).0 e in
      brand_up n m n (or_left (bytes_eq n n) (below c n n) ((bytes_eq-Decides n n).1 refl))
      (or_left (bytes_eq m n) (below c m n) ((bytes_eq-Decides m n).1 (sym same)))
  common_up n m false e h = first_up n m (chain c n) h

  weaken : (l : List ℕ) (ls ks : List (List ℕ)) → AllOf (λ k. IsTrue (is_in k ls)) ks
      → AllOf (λ k. IsTrue (is_in k (l ∷ ls))) ks
  weaken l ls [] h = tt
  weaken l ls (k ∷ ks) h = (or_right (bytes_eq l k) (is_in k ls) h.0, weaken l ls ks h.1)

  all_in_own : (ks : List (List ℕ)) → AllOf (λ k. IsTrue (is_in k ks)) ks
  all_in_own [] = tt
  all_in_own (k ∷ ks) =
      (or_left (bytes_eq k k) (is_in k ks) ((bytes_eq-Decides k k).1 refl), weaken k ks ks (all_in_own ks))

  -- ---- records
  shared_cond : {A B : Type 0} (j : A → B → Option Ty) (ps : List (List ℕ × A)) (qs : List (List ℕ × B)) (m n : List ℕ)
      (t : Ty) (r : Option Ty) (u : Ty) (b : Bool) → bytes_eq m n ≡ b
      → joined j (lookup m ps) (lookup m qs) ≡ Some t → (r ≡ Some u → joined j (lookup n ps) (lookup n qs) ≡ Some u)
      → cond b (Some t) r ≡ Some u → joined j (lookup n ps) (lookup n qs) ≡ Some u
  shared_cond j ps qs m n t r u true e h later k =
      let same : m ≡ n = (bytes_eq-Decides m n).0 e in ap (λ x. joined j (lookup x ps) (lookup x qs)) (sym same) ∙ h ∙ k
  shared_cond j ps qs m n t r u false e h later k = later k

  shared_put : {A B : Type 0} (j : A → B → Option Ty) (ps : List (List ℕ × A)) (qs : List (List ℕ × B)) (m n : List ℕ)
      (o : Option Ty) (r : List (List ℕ × Ty)) (u : Ty)
      → joined j (lookup m ps) (lookup m qs) ≡ o → (lookup n r ≡ Some u → joined j (lookup n ps) (lookup n qs) ≡ Some u)
      → lookup n (put_some m o r) ≡ Some u → joined j (lookup n ps) (lookup n qs) ≡ Some u
  shared_put j ps qs m n None r u h later k = later k
  shared_put j ps qs m n (Some t) r u h later k = shared_cond j ps qs m n t (lookup n r) u (bytes_eq m n) refl h later k

  shared_at : {A B : Type 0} (j : A → B → Option Ty) (ns : List (List ℕ)) (ps : List (List ℕ × A))
      (qs : List (List ℕ × B)) (n : List ℕ) (u : Ty) → lookup n (shared j ns ps qs) ≡ Some u
      → joined j (lookup n ps) (lookup n qs) ≡ Some u
  shared_at j [] ps qs n u e = absurd (cc)
  shared_at j (m ∷ ms) ps qs n u e =
      shared_put j ps qs m n (joined j (lookup m ps) (lookup m qs)) (shared j ms ps qs) u refl
      (λ k. shared_at j ms ps qs n u k) e

  abbrev Above : Ty → Type 0
  Above a = (b : Ty) → Up c a b (join c a b)

  field_up : (x y : Option Ty) (u : Ty) → ((a : Ty) → x ≡ Some a → Above a) → joined (join c) x y ≡ Some u
      → IsTrue (at_field (sub c) x (Some u)) × IsTrue (at_field (sub c) y (Some u))
  field_up None y u h e = absurd (cc)
  field_up (Some a) None u h e = absurd (cc)
  field_up (Some a) (Some b) u h e = let P : Option Ty → Type 0 = Up c a b in subst P e (h a refl b)

  fields_up : (ps qs : List (List ℕ × Ty)) → AllIn Above ps → (n : List ℕ) (u : Ty)
      → lookup n (shared (join c) (names ps) ps qs) ≡ Some u
      → IsTrue (at_field (sub c) (lookup n ps) (Some u)) × IsTrue (at_field (sub c) (lookup n qs) (Some u))
  fields_up ps qs h n u e =
      field_up (lookup n ps) (lookup n qs) u (λ a k. found Above ps h n a k) (shared_at (join c) (names ps) ps qs n u e)

  has_left : (ps qs : List (List ℕ × Ty)) → AllIn Above ps
      → IsTrue (has_fields (sub c) ps (shared (join c) (names ps) ps qs))
  has_left ps qs h =
      let r = shared (join c) (names ps) ps qs in
      has_from (sub c) ps r (λ n. at_none (sub c) (lookup n ps) (lookup n r)
      (λ u e. rw e ((fields_up ps qs h n u e).0)))

  has_right : (ps qs : List (List ℕ × Ty)) → AllIn Above ps
      → IsTrue (has_fields (sub c) qs (shared (join c) (names ps) ps qs))
  has_right ps qs h =
      let r = shared (join c) (names ps) ps qs in
      has_from (sub c) qs r (λ n. at_none (sub c) (lookup n qs) (lookup n r)
      (λ u e. rw e ((fields_up ps qs h n u e).1)))

  row_up : (w v : Width) (ps qs r : List (List ℕ × Ty)) (b : Bool)
      → (same_names (names ps) (names qs) && same_names (names r) (names ps)) ≡ b → IsTrue (has_fields (sub c) ps r)
      → IsTrue (has_fields (sub c) qs r)
      → IsTrue (sub_layer c (sub c) (Ty-F.Rec w ps) (Ty-F.Rec (width_of w v b) r))
      × IsTrue (sub_layer c (sub c) (Ty-F.Rec v qs) (Ty-F.Rec (width_of w v b) r))
  row_up Exact Exact ps qs r true e h k =
      let a = and_parts (same_names (names ps) (names qs)) (same_names (names r) (names ps)) e in
      let p = same_names-is (names ps) (names qs) a.0 in let q = same_names-is (names r) (names ps) a.1 in (
        both (same_names (names ps) (names r)) (has_fields (sub c) ps r) (rw q (same_names-refl (names ps))) h,
        both (same_names (names qs) (names r)) (has_fields (sub c) qs r) (rw (q, p) (same_names-refl (names qs))) k,
      )
  row_up Exact Exact ps qs r false e h k = (h, k)
  row_up Exact Wide ps qs r b e h k = (h, k)
  row_up Wide Exact ps qs r b e h k = (h, k)
  row_up Wide Wide ps qs r b e h k = (h, k)

  rec_up : (w v : Width) (ps qs : List (List ℕ × Ty)) → AllIn Above ps
      → Up c (roll-Ty (Ty-F.Rec w ps)) (roll-Ty (Ty-F.Rec v qs))
      (Some (row_join (names ps) (names qs) w v (shared (join c) (names ps) ps qs)))
  rec_up w v ps qs h =
      let r = shared (join c) (names ps) ps qs in
      let b = same_names (names ps) (names qs) && same_names (names r) (names ps) in
      let u = row_up w v ps qs r b refl (has_left ps qs h) (has_right ps qs h) in (
        sub_is (Ty-F.Rec w ps) (ty.Rec (width_of w v b) r) (Ty-F.Rec (width_of w v b) r)
            (out-Rec (width_of w v b) r) u.0,
        sub_is (Ty-F.Rec v qs) (ty.Rec (width_of w v b) r) (Ty-F.Rec (width_of w v b) r)
            (out-Rec (width_of w v b) r) u.1,
      )

  bottom_sub : (t : Ty) → IsTrue (sub c (roll-Ty Ty-F.Bottom) t)
  bottom_sub t = sub_roll c Ty-F.Bottom t

  up_layer : (x : Ty-F Ty) → HeldTy Above x → (y : Ty-F Ty)
      → Up c (roll-Ty x) (roll-Ty y) (join_layer c (λ t. t) (join c) x y)
  up_layer Ty-F.Bottom h y = (bottom_sub (roll-Ty y), sub_refl c (roll-Ty y))
  up_layer Ty-F.Unit h Ty-F.Unit =
      (sub_is Ty-F.Unit ty.Unit Ty-F.Unit out-Unit refl, sub_is Ty-F.Unit ty.Unit Ty-F.Unit out-Unit refl)
  up_layer Ty-F.Bool h Ty-F.Bool =
      (sub_is Ty-F.Bool ty.Bool Ty-F.Bool out-Bool refl, sub_is Ty-F.Bool ty.Bool Ty-F.Bool out-Bool refl)
  up_layer Ty-F.Int h Ty-F.Int =
      (sub_is Ty-F.Int ty.Int Ty-F.Int out-Int refl, sub_is Ty-F.Int ty.Int Ty-F.Int out-Int refl)
  up_layer Ty-F.Text h Ty-F.Text =
      (sub_is Ty-F.Text ty.Text Ty-F.Text out-Text refl, sub_is Ty-F.Text ty.Text Ty-F.Text out-Text refl)
  up_layer (Ty-F.Coll a) h (Ty-F.Coll b) = up_coll a b (join c a b) (h b)
  up_layer (Ty-F.Rec w ps) h (Ty-F.Rec v qs) = rec_up w v ps qs h
  up_layer (Ty-F.Rec w ps) h Ty-F.Bottom =
      (rw (ident (Ty-F.Rec w ps)) (sub_refl c (roll-Ty (Ty-F.Rec w ps))), bottom_sub _)
  up_layer (Ty-F.Either a b) h (Ty-F.Either d e) = up_either a b d e (join c a d) (join c b e) (h.0 d) (h.1 e)
  up_layer (Ty-F.Brand n) h (Ty-F.Brand m) = common_up n m (bytes_eq n m) refl (all_in_own (chain c n))
  up_layer Ty-F.Unit h Ty-F.Bottom = (sub_refl c (roll-Ty Ty-F.Unit), bottom_sub _)
  up_layer Ty-F.Bool h Ty-F.Bottom = (sub_refl c (roll-Ty Ty-F.Bool), bottom_sub _)
  up_layer Ty-F.Int h Ty-F.Bottom = (sub_refl c (roll-Ty Ty-F.Int), bottom_sub _)
  up_layer Ty-F.Text h Ty-F.Bottom = (sub_refl c (roll-Ty Ty-F.Text), bottom_sub _)
  up_layer (Ty-F.Coll a) h Ty-F.Bottom = (sub_refl c (roll-Ty (Ty-F.Coll a)), bottom_sub _)
  up_layer (Ty-F.Either a b) h Ty-F.Bottom = (sub_refl c (roll-Ty (Ty-F.Either a b)), bottom_sub _)
  up_layer (Ty-F.Brand n) h Ty-F.Bottom = (sub_refl c (roll-Ty (Ty-F.Brand n)), bottom_sub _)
  up_layer x h y = tt

  -- where a join is there, it is above both
  pub join_above : (a b : Ty) → Up c a b (join c a b)
  join_above =
      ty_ind Above (λ x h b. rw (join_roll c x b)
      (let P : Ty → Type 0 = λ t. Up c (roll-Ty x) t (join_layer c (λ s. s) (join c) x (out-Ty b)) in
      subst P (roll-out-Ty b) (up_layer x h (out-Ty b))))

-- the same of a call that answers the join
pub made_above : {E : Type 0} (c : Defs) (a b : Ty) (made : Result (Option Ty) E) → IfOk made (λ o. o ≡ join c a b)
    → IfOk made (Up c a b)
made_above c a b (Ok o) e = subst (Up c a b) (sym e) (join_above c a b)
made_above c a b (Err e) m = tt

pub join_out : (c : Defs) (a b : Ty) → join c a b ≡ join_layer c (λ t. t) (join c) (out-Ty a) (out-Ty b)
join_out c a b = ap (λ x. join c x b) (sym (roll-out-Ty a)) ∙ join_roll c (out-Ty a) b

bottom_layer : (c : Defs) (x : Ty-F Ty) → join_layer c (λ t. t) (join c) x Ty-F.Bottom ≡ Some (roll-Ty x)
bottom_layer c Ty-F.Bottom = refl
bottom_layer c Ty-F.Unit = refl
bottom_layer c Ty-F.Bool = refl
bottom_layer c Ty-F.Int = refl
bottom_layer c Ty-F.Text = refl
bottom_layer c (Ty-F.Coll t) = refl
bottom_layer c (Ty-F.Rec w ts) = ap (λ y. Some (roll-Ty y)) (ident (Ty-F.Rec w ts))
bottom_layer c (Ty-F.Either t u) = refl
bottom_layer c (Ty-F.Brand n) = refl

out-Bottom : out-Ty ty.Bottom ≡ Ty-F.Bottom
out-Bottom = search (rules, the_lemmas)

-- with Bottom the other
pub join_bottom : (c : Defs) (a : Ty) → join c a ty.Bottom ≡ Some a
join_bottom c a =
    join_out c a ty.Bottom ∙ ap (join_layer c (λ t. t) (join c) (out-Ty a)) out-Bottom ∙ bottom_layer c (out-Ty a)
    ∙ ap Some (roll-out-Ty a)

pub bottom_join : (c : Defs) (b : Ty) → join c ty.Bottom b ≡ Some b
bottom_join c b =
    join_out c ty.Bottom b ∙ ap (λ x. join_layer c (λ t. t) (join c) x (out-Ty b)) out-Bottom ∙ ap Some (roll-out-Ty b)

-- with equal types there is a join
joined_coll : (o : Option Ty) → IsTrue (is_some o) → IsTrue (is_some (option_map (λ t. ty.Coll t) o))
joined_coll None h = h
joined_coll (Some t) h = refl

joined_either : (o p : Option Ty) → IsTrue (is_some o) → IsTrue (is_some p) → IsTrue (is_some (either o p))
joined_either None p h k = absurd (cc)
joined_either (Some s) None h k = absurd (cc)
joined_either (Some s) (Some t) h k = refl

same_layer : (c : Defs) (x : Ty-F Ty) → HeldTy (λ t. IsTrue (is_some (join c t t))) x
    → IsTrue (is_some (join_layer c (λ t. t) (join c) x x))
same_layer c (Ty-F.Coll t) h = joined_coll (join c t t) h
same_layer c (Ty-F.Either t u) h = joined_either (join c t t) (join c u u) h.0 h.1
same_layer c (Ty-F.Brand n) h = rw ((bytes_eq-Decides n n).1 refl) refl
same_layer c x h = refl

pub join_same : (c : Defs) (t : Ty) → IsTrue (is_some (join c t t))
join_same c =
    ty_ind (λ t. IsTrue (is_some (join c t t)))
    (λ x h. rw (join_roll c x (roll-Ty x), out-roll-Ty x) (same_layer c x h))

-- of records the record of the names that both have, with types that join: Exact where both are, with the same names,
-- which all join
pub join_records : (c : Defs) (w v : Width) (ps qs : List (List ℕ × Ty))
    → join c (ty.Rec w ps) (ty.Rec v qs) ≡ Some (row_join (names ps) (names qs) w v (shared (join c) (names ps) ps qs))
join_records c w v ps qs = join_out c (ty.Rec w ps) (ty.Rec v qs) ∙ rw (out-Rec w ps, out-Rec v qs) refl
