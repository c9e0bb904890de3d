-- Types by layers; subtyping is an order, and data fit what is above their type.
use Rattle.std.proofs.Common.{◌≡◌, ℕ, List, [], ◌∷◌, Some, None, Bool, true, false, ◌&&◌, ◌||◌, IsTrue, refl, sym, ap}
use Rattle.std.proofs.Common.{◌∙◌, rules}
use Rattle.std.specs.Str.{bytes_eq}
use Rattle.std.proofs.lemmas.Slice.Eq.{bytes_eq-Decides}
use Rattle.qc_data.specs.declared.data.Datum.{Datum}
use Rattle.qc_data.specs.declared.data.Datum.TheOpen.{Datum-F}
use Rattle.qc_data.specs.declared.data.Datum.TheViews.{out-Datum, roll-Datum}
use Rattle.qc_data.specs.declared.data.Datum.TheFolds.{map-Datum, fold-roll-Datum}
use Rattle.qc_types.specs.declared.ty.Width.TheVariants.{Exact, Wide}
use Rattle.qc_types.specs.declared.ty.Ty.{Ty, the_lemmas}
use Rattle.qc_types.specs.declared.ty.Ty.TheVariants as ty
use Rattle.qc_types.specs.declared.ty.Ty.TheOpen.{Ty-F}
use Rattle.qc_types.specs.declared.ty.Ty.TheViews.{out-Ty, roll-Ty}
use Rattle.qc_types.specs.declared.ty.Ty.TheFolds.{map-Ty, fold-roll-Ty}
use Rattle.qc_types.specs.Rows.{names, same_names, all_in, has_fields}
use Rattle.qc_types.specs.Classes.{Defs, below, shape}
use Rattle.qc_types.specs.Types.{content, fits, fits_layer, fits_step, sub, sub_layer, sub_step}
use Rattle.qc_types.proofs.RowLaws.{and_parts, both, all_in-map, fields_in-map, has_trans, exact_trans, has_refl}
use Rattle.qc_types.proofs.RowLaws.{same_names-refl}
use Rattle.qc_types.proofs.Inductions.{AllOf, found, Held, datum_ind, HeldTy, ty_ind, roll-out, out-roll-Ty}
use Rattle.qc_types.proofs.Inductions.{roll-out-Ty}

fits_layer-map : {A : Type 0} (c : Defs) (h : A → Ty → Bool) (x : Datum-F A) (y : Ty-F Ty)
    → fits_layer c (λ (f : Ty → Bool) u. f u) (map-Datum A (Ty → Bool) h x) y ≡ fits_layer c h x y
fits_layer-map c h (Datum-F.Coll ds) (Ty-F.Coll t) = all_in-map (λ f. f t) h ds
fits_layer-map c h (Datum-F.Rec fs) (Ty-F.Rec w ts) = fields_in-map w (λ f u. f u) h fs ts
fits_layer-map c h (Datum-F.Brand n d) (Ty-F.Brand m) =
    elim (shape c n) as (λ s. (below c n m && content (λ (f : Ty → Bool) u. f u) (h d) s)
    ≡ (below c n m && content h d s)) [ None ↦ refl | Some t ↦ refl ]
fits_layer-map c h x y = refl

pub fits_roll : (c : Defs) (x : Datum-F Datum) (t : Ty) → fits c (roll-Datum x) t ≡ fits_layer c (fits c) x (out-Ty t)
fits_roll c x t =
    ap (λ (f : Ty → Bool). f t) (fold-roll-Datum (Ty → Bool) (fits_step c) x) ∙ fits_layer-map c (fits c) x (out-Ty t)

pub fits_out : (c : Defs) (d : Datum) (t : Ty) → fits c d t ≡ fits_layer c (fits c) (out-Datum d) (out-Ty t)
fits_out c d t = ap (λ x. fits c x t) (sym (roll-out d)) ∙ fits_roll c (out-Datum d) t

sub_layer-map : {A : Type 0} (c : Defs) (h : A → Ty → Bool) (x : Ty-F A) (y : Ty-F Ty)
    → sub_layer c (λ (f : Ty → Bool) u. f u) (map-Ty A (Ty → Bool) h x) y ≡ sub_layer c h x y
sub_layer-map c h (Ty-F.Rec Exact ts) (Ty-F.Rec Exact us) = fields_in-map Exact (λ f u. f u) h ts us
sub_layer-map c h (Ty-F.Rec Exact ts) (Ty-F.Rec Wide us) = fields_in-map Wide (λ f u. f u) h ts us
sub_layer-map c h (Ty-F.Rec Wide ts) (Ty-F.Rec Wide us) = fields_in-map Wide (λ f u. f u) h ts us
sub_layer-map c h x y = refl

pub sub_roll : (c : Defs) (x : Ty-F Ty) (t : Ty) → sub c (roll-Ty x) t ≡ sub_layer c (sub c) x (out-Ty t)
sub_roll c x t =
    ap (λ (f : Ty → Bool). f t) (fold-roll-Ty (Ty → Bool) (sub_step c) x) ∙ sub_layer-map c (sub c) x (out-Ty t)

pub sub_out : (c : Defs) (a b : Ty) → sub c a b ≡ sub_layer c (sub c) (out-Ty a) (out-Ty b)
sub_out c a b = ap (λ x. sub c x b) (sym (roll-out-Ty a)) ∙ sub_roll c (out-Ty a) b

-- ---- reflexive

or_left : (a b : Bool) → IsTrue a → IsTrue (a || b)
or_left a b h = rw h refl

refl_layer : (c : Defs) (x : Ty-F Ty) → HeldTy (λ t. IsTrue (sub c t t)) x → IsTrue (sub_layer c (sub c) x x)
refl_layer c Ty-F.Bottom h = refl
refl_layer c Ty-F.Unit h = refl
refl_layer c Ty-F.Bool h = refl
refl_layer c Ty-F.Int h = refl
refl_layer c Ty-F.Text h = refl
refl_layer c (Ty-F.Coll t) h = h
refl_layer c (Ty-F.Rec Exact ts) h =
    both (same_names (names ts) (names ts)) (has_fields (sub c) ts ts) (same_names-refl (names ts))
    (has_refl (sub c) ts (found (λ t. IsTrue (sub c t t)) ts h))
refl_layer c (Ty-F.Rec Wide ts) h = has_refl (sub c) ts (found (λ t. IsTrue (sub c t t)) ts h)
refl_layer c (Ty-F.Either t u) h = both (sub c t t) (sub c u u) h.0 h.1
refl_layer c (Ty-F.Brand n) h = or_left (bytes_eq n n) (below c n n) ((bytes_eq-Decides n n).1 refl)

pub sub_refl : (c : Defs) (t : Ty) → IsTrue (sub c t t)
sub_refl c =
    ty_ind (λ t. IsTrue (sub c t t)) (λ x h. sub_roll c x (roll-Ty x) ∙ ap (sub_layer c (sub c) x) (out-roll-Ty x)
    ∙ refl_layer c x h)

-- ---- transitive, and data fit what is above

-- a class is below what those above it are below
abbrev pub Along : Defs → Type 0
Along c = (a b d : List ℕ) → IsTrue (below c a b) → IsTrue (below c b d) → IsTrue (below c a d)

or_right : (a b : Bool) → IsTrue b → IsTrue (a || b)
or_right true b h = refl
or_right false b h = h

brand_trans : (c : Defs) → Along c → (n m k : List ℕ) (p q : Bool) → bytes_eq n m ≡ p → bytes_eq m k ≡ q
    → IsTrue (p || below c n m) → IsTrue (q || below c m k) → IsTrue (bytes_eq n k || below c n k)
brand_trans c g n m k true q e e' h h' = let same : n ≡ m = (bytes_eq-Decides n m).0 e in rw (same, e') h'
brand_trans c g n m k false true e e' h h' = let same : m ≡ k = (bytes_eq-Decides m k).0 e' in rw (← same, e) h
brand_trans c g n m k false false e e' h h' = or_right (bytes_eq n k) (below c n k) (g n m k h h')

abbrev Trans : Defs → Ty → Type 0
Trans c a = (b d : Ty) → IsTrue (sub c a b) → IsTrue (sub c b d) → IsTrue (sub c a d)

trans_layer : (c : Defs) → Along c → (x u v : Ty-F Ty) → HeldTy (Trans c) x → IsTrue (sub_layer c (sub c) x u)
    → IsTrue (sub_layer c (sub c) u v) → IsTrue (sub_layer c (sub c) x v)
trans_layer c g Ty-F.Bottom u v h j k = refl
trans_layer c g Ty-F.Unit Ty-F.Unit v h j k = k
trans_layer c g Ty-F.Bool Ty-F.Bool v h j k = k
trans_layer c g Ty-F.Int Ty-F.Int v h j k = k
trans_layer c g Ty-F.Text Ty-F.Text v h j k = k
trans_layer c g (Ty-F.Coll t) (Ty-F.Coll u) (Ty-F.Coll w) h j k = h u w j k
trans_layer c g (Ty-F.Rec Exact ts) (Ty-F.Rec Exact us) (Ty-F.Rec Exact ws) h j k =
    exact_trans (sub c) (sub c) (sub c) ts us ws (λ n a b d e. found (Trans c) ts h n a e b d) j k
trans_layer c g (Ty-F.Rec Exact ts) (Ty-F.Rec Exact us) (Ty-F.Rec Wide ws) h j k =
    has_trans (sub c) (sub c) (sub c) ts us ws (λ n a b d e. found (Trans c) ts h n a e b d)
    (and_parts (same_names (names ts) (names us)) (has_fields (sub c) ts us) j).1 k
trans_layer c g (Ty-F.Rec Exact ts) (Ty-F.Rec Wide us) (Ty-F.Rec Wide ws) h j k =
    has_trans (sub c) (sub c) (sub c) ts us ws (λ n a b d e. found (Trans c) ts h n a e b d) j k
trans_layer c g (Ty-F.Rec Wide ts) (Ty-F.Rec Wide us) (Ty-F.Rec Wide ws) h j k =
    has_trans (sub c) (sub c) (sub c) ts us ws (λ n a b d e. found (Trans c) ts h n a e b d) j k
trans_layer c g (Ty-F.Either t s) (Ty-F.Either u v) (Ty-F.Either w x) h j k =
    let a = and_parts (sub c t u) (sub c s v) j in let b = and_parts (sub c u w) (sub c v x) k in
    both (sub c t w) (sub c s x) (h.0 u w a.0 b.0) (h.1 v x a.1 b.1)
trans_layer c g (Ty-F.Brand n) (Ty-F.Brand m) (Ty-F.Brand k) h i j =
    brand_trans c g n m k (bytes_eq n m) (bytes_eq m k) refl refl i j
trans_layer c g x u v h j k = absurd (cc)

pub sub_trans-along : (c : Defs) → Along c → (a b d : Ty) → IsTrue (sub c a b) → IsTrue (sub c b d) → IsTrue (sub c a d)
sub_trans-along c g =
    ty_ind (Trans c) (λ x h b d j k. sub_roll c x d
    ∙ trans_layer c g x (out-Ty b) (out-Ty d) h (sym (sub_roll c x b) ∙ j) (sym (sub_out c b d) ∙ k))

abbrev Mono : Defs → Datum → Type 0
Mono c d = (a b : Ty) → IsTrue (fits c d a) → IsTrue (sub c a b) → IsTrue (fits c d b)

all_mono : (c : Defs) (ds : List Datum) → AllOf (Mono c) ds → (t u : Ty) → IsTrue (all_in (λ d. fits c d t) ds)
    → IsTrue (sub c t u) → IsTrue (all_in (λ d. fits c d u) ds)
all_mono c [] h t u f s = refl
all_mono c (d ∷ ds) h t u f s =
    let a = and_parts (fits c d t) (all_in (λ d. fits c d t) ds) f in
    both (fits c d u) (all_in (λ d. fits c d u) ds) (h.0 t u a.0 s) (all_mono c ds h.1 t u a.1 s)

brand_mono : (c : Defs) → Along c → (n m k : List ℕ) (p : Bool) (r : Bool) → bytes_eq m k ≡ p
    → IsTrue (below c n m && r) → IsTrue (p || below c m k) → IsTrue (below c n k && r)
brand_mono c g n m k true r e f s = let same : m ≡ k = (bytes_eq-Decides m k).0 e in rw (← same) f
brand_mono c g n m k false r e f s = let a = and_parts (below c n m) r f in both (below c n k) r (g n m k a.0 s) a.1

mono_layer : (c : Defs) → Along c → (x : Datum-F Datum) (u v : Ty-F Ty) → Held (Mono c) x
    → IsTrue (fits_layer c (fits c) x u) → IsTrue (sub_layer c (sub c) u v) → IsTrue (fits_layer c (fits c) x v)
mono_layer c g Datum-F.Unit Ty-F.Unit Ty-F.Unit h f s = refl
mono_layer c g (Datum-F.Bool b) Ty-F.Bool Ty-F.Bool h f s = refl
mono_layer c g (Datum-F.Int n) Ty-F.Int Ty-F.Int h f s = refl
mono_layer c g (Datum-F.Text t) Ty-F.Text Ty-F.Text h f s = refl
mono_layer c g (Datum-F.Coll ds) (Ty-F.Coll t) (Ty-F.Coll u) h f s = all_mono c ds h t u f s
mono_layer c g (Datum-F.Rec fs) (Ty-F.Rec Exact ts) (Ty-F.Rec Exact us) h f s =
    exact_trans (fits c) (sub c) (fits c) fs ts us (λ n a b d e. found (Mono c) fs h n a e b d) f s
mono_layer c g (Datum-F.Rec fs) (Ty-F.Rec Exact ts) (Ty-F.Rec Wide us) h f s =
    has_trans (fits c) (sub c) (fits c) fs ts us (λ n a b d e. found (Mono c) fs h n a e b d)
    (and_parts (same_names (names fs) (names ts)) (has_fields (fits c) fs ts) f).1 s
mono_layer c g (Datum-F.Rec fs) (Ty-F.Rec Wide ts) (Ty-F.Rec Wide us) h f s =
    has_trans (fits c) (sub c) (fits c) fs ts us (λ n a b d e. found (Mono c) fs h n a e b d) f s
mono_layer c g (Datum-F.Left d) (Ty-F.Either t u) (Ty-F.Either v w) h f s =
    h t v f (and_parts (sub c t v) (sub c u w) s).0
mono_layer c g (Datum-F.Right d) (Ty-F.Either t u) (Ty-F.Either v w) h f s =
    h u w f (and_parts (sub c t v) (sub c u w) s).1
mono_layer c g (Datum-F.Brand n d) (Ty-F.Brand m) (Ty-F.Brand k) h f s =
    brand_mono c g n m k (bytes_eq m k) (content (fits c) d (shape c n)) refl f s
mono_layer c g x u v h f s = absurd (cc)

pub fits_mono-along : (c : Defs) → Along c → (d : Datum) (a b : Ty) → IsTrue (fits c d a) → IsTrue (sub c a b)
    → IsTrue (fits c d b)
fits_mono-along c g =
    datum_ind (Mono c) (λ x h a b f s. fits_roll c x b
    ∙ mono_layer c g x (out-Ty a) (out-Ty b) h (sym (fits_roll c x a) ∙ f) (sym (sub_out c a b) ∙ s))

-- ---- nothing fits Bottom

bottom_layer : (c : Defs) (x : Datum-F Datum) → fits_layer c (fits c) x Ty-F.Bottom ≡ false
bottom_layer c Datum-F.Unit = refl
bottom_layer c x = refl

out-Bottom : out-Ty ty.Bottom ≡ Ty-F.Bottom
out-Bottom = search (rules, the_lemmas)

pub fits_bottom : (c : Defs) (d : Datum) → fits c d ty.Bottom ≡ false
fits_bottom c d =
    fits_out c d ty.Bottom ∙ ap (fits_layer c (fits c) (out-Datum d)) out-Bottom ∙ bottom_layer c (out-Datum d)
