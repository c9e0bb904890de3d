-- Subtyping at each pair of kinds.
use Rattle.std.proofs.Common.{◌≡◌, ℕ, ◌+◌, ◌<◌, length, drop, get_or, Some, None, List, Bool, true, false, refl, sym}
use Rattle.std.proofs.Common.{ap, ◌∙◌, rules}
use Rattle.qc_types.specs.declared.ty.Width.{Width}
use Rattle.qc_types.specs.declared.ty.Width.TheVariants.{Exact, Wide}
use Rattle.qc_types.specs.declared.ty.Ty.{Ty, the_lemmas}
use Rattle.qc_types.specs.declared.ty.Ty.TheOpen.{Ty-F}
use Rattle.qc_types.specs.declared.ty.Ty.TheViews.{out-Ty}
use Rattle.qc_types.specs.declared.ty.Ty.TheVariants as ty
use Rattle.qc_types.specs.Rows.{names, same_names, has_fields}
use Rattle.qc_types.specs.Classes.{Defs}
use Rattle.qc_types.specs.Types.{sub, sub_layer}
use Rattle.qc_containers.specs.Pairs.{lookup}
use Rattle.qc_containers.specs.Rising.{Rising}
use Rattle.qc_types.specs.Rows.{all_in, at_field}
use Rattle.qc_types.proofs.RowLaws.{has_more}
use Rattle.qc_types.proofs.TypeLaws.{sub_out}

out-Rec : (w : Width) (ts : List (List ℕ × Ty)) → out-Ty (ty.Rec w ts) ≡ Ty-F.Rec w ts
out-Rec w ts = search (rules, the_lemmas)

pub sub-Rec : (c : Defs) (w v : Width) (ts us : List (List ℕ × Ty))
    → sub c (ty.Rec w ts) (ty.Rec v us) ≡ sub_layer c (sub c) (Ty-F.Rec w ts) (Ty-F.Rec v us)
sub-Rec c w v ts us = sub_out c (ty.Rec w ts) (ty.Rec v us) ∙ rw (out-Rec w ts, out-Rec v us) refl

pub exact_not : (c : Defs) (a b : Ty) (ts us : List (List ℕ × Ty)) (n : Bool) → a ≡ ty.Rec Exact ts
    → b ≡ ty.Rec Exact us → n ≡ same_names (names ts) (names us) → n ≡ false → false ≡ sub c a b
exact_not c a b ts us n ea eb en h = rw (ea, eb, sub-Rec c Exact Exact ts us, ← en, h) refl

pub exact_is : (c : Defs) (a b : Ty) (ts us : List (List ℕ × Ty)) (n r : Bool) → a ≡ ty.Rec Exact ts
    → b ≡ ty.Rec Exact us → n ≡ same_names (names ts) (names us) → n ≡ true → r ≡ has_fields (sub c) ts us
    → r ≡ sub c a b
exact_is c a b ts us n r ea eb en h er = rw (ea, eb, sub-Rec c Exact Exact ts us, ← en, h, er) refl

wide_layer : (c : Defs) (w : Width) (ts us : List (List ℕ × Ty))
    → sub_layer c (sub c) (Ty-F.Rec w ts) (Ty-F.Rec Wide us) ≡ has_fields (sub c) ts us
wide_layer c Exact ts us = refl
wide_layer c Wide ts us = refl

pub wide_is : (c : Defs) (a b : Ty) (w : Width) (ts us : List (List ℕ × Ty)) (r : Bool) → a ≡ ty.Rec w ts
    → b ≡ ty.Rec Wide us → r ≡ has_fields (sub c) ts us → r ≡ sub c a b
wide_is c a b w ts us r ea eb er = rw (ea, eb, sub-Rec c w Wide ts us, er) (sym (wide_layer c w ts us))

module _ {A T : Type 0} (r : A → T → Bool) (fs : List (List ℕ × A)) (ts us : List (List ℕ × T)) (k : ℕ)
    (p : List ℕ × T) where
  abbrev Left : ℕ → Bool
  Left i = all_in (λ n. at_field r (lookup n fs) (lookup n ts)) (names (drop i us))

  pub goes_on : (n : List ℕ) (a : A) (b whole : Bool) → whole ≡ Left k → us ≡ ts → Rising us → k < length us
      → p ≡ get_or us k p → n ≡ p.0 → Some a ≡ lookup n fs → b ≡ r a p.1 → b ≡ true → whole ≡ Left (k + 1)
  goes_on n a b whole w e h lt ip en ea eb hb =
      let at : lookup p.0 fs ≡ Some a =
      ap (λ m. lookup m fs) (sym en) ∙ sym ea in w ∙ has_more r fs ts us k p e h lt ip ∙ rw (at, ← eb, hb) refl

  pub ends : (n : List ℕ) (a : A) (b whole : Bool) → whole ≡ Left k → us ≡ ts → Rising us → k < length us
      → p ≡ get_or us k p → n ≡ p.0 → Some a ≡ lookup n fs → b ≡ r a p.1 → b ≡ false → false ≡ whole
  ends n a b whole w e h lt ip en ea eb hb =
      let at : lookup p.0 fs ≡ Some a =
      ap (λ m. lookup m fs) (sym en) ∙ sym ea in sym (w ∙ has_more r fs ts us k p e h lt ip ∙ rw (at, ← eb, hb) refl)

  pub lacks : (n : List ℕ) (whole : Bool) → whole ≡ Left k → us ≡ ts → Rising us → k < length us → p ≡ get_or us k p
      → n ≡ p.0 → None ≡ lookup n fs → false ≡ whole
  lacks n whole w e h lt ip en ea =
      let at : lookup p.0 fs ≡ None =
      ap (λ m. lookup m fs) (sym en) ∙ sym ea in sym (w ∙ has_more r fs ts us k p e h lt ip ∙ rw at refl)

pub ruleset by_layer = (the_lemmas, sub_out)
