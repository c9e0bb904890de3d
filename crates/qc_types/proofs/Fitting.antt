-- What fits a type, at each pair of kinds.
use Rattle.std.proofs.Common.{◌≡◌, ℕ, ◌+◌, ◌<◌, length, drop, get_or, Option, Some, List, Bool, ◌&&◌, refl, sym, ap}
use Rattle.std.proofs.Common.{◌∙◌, rules}
use Rattle.std.specs.Prelude.{is_some}
use Rattle.qc_containers.specs.Pairs.{lookup}
use Rattle.qc_containers.specs.Rising.{Rising}
use Rattle.qc_data.specs.declared.data.Datum.{Datum, the_lemmas as datum_lemmas}
use Rattle.qc_data.specs.declared.data.Datum.TheOpen.{Datum-F}
use Rattle.qc_data.specs.declared.data.Datum.TheViews.{out-Datum}
use Rattle.qc_data.specs.declared.data.Datum.TheVariants as D
use Rattle.qc_types.specs.declared.ty.Width.{Width}
use Rattle.qc_types.specs.declared.ty.Width.TheVariants.{Exact, Wide}
use Rattle.qc_types.specs.declared.ty.Ty.{Ty, the_lemmas}
use Rattle.qc_types.specs.declared.ty.Ty.TheOpen.{Ty-F}
use Rattle.qc_types.specs.declared.ty.Ty.TheViews.{out-Ty}
use Rattle.qc_types.specs.declared.ty.Ty.TheVariants as ty
use Rattle.qc_types.specs.Classes.{Defs}
use Rattle.qc_types.specs.Rows.{all_in, names, same_names, fields_in}
use Rattle.qc_types.specs.inner.Shared.{at_shared, has_shared}
use Rattle.qc_types.specs.Types.{fits}
use Rattle.qc_types.proofs.RowLaws.{exact_parts, shared_more, wide_parts}
use Rattle.qc_types.proofs.TypeLaws.{fits_out}

out-Rec-Ty : (w : Width) (ts : List (List ℕ × Ty)) → out-Ty (ty.Rec w ts) ≡ Ty-F.Rec w ts
out-Rec-Ty w ts = search (rules, the_lemmas)

out-Rec : (fs : List (List ℕ × Datum)) → out-Datum (D.Rec fs) ≡ Datum-F.Rec fs
out-Rec fs = search (rules, datum_lemmas)

-- a record of the type of records
pub fits-Rec : (c : Defs) (fs : List (List ℕ × Datum)) (w : Width) (ts : List (List ℕ × Ty))
    → fits c (D.Rec fs) (ty.Rec w ts) ≡ fields_in w (fits c) fs ts
fits-Rec c fs w ts = fits_out c (D.Rec fs) (ty.Rec w ts) ∙ rw (out-Rec fs, out-Rec-Ty w ts) refl

pub exact_is : (c : Defs) (d : Datum) (t : Ty) (fs : List (List ℕ × Datum)) (ts : List (List ℕ × Ty)) (n r : Bool)
    → d ≡ D.Rec fs → t ≡ ty.Rec Exact ts → n ≡ same_names (names fs) (names ts) → r ≡ (n && has_shared (fits c) fs ts)
    → r ≡ fits c d t
exact_is c d t fs ts n r ed et en er =
    er ∙ ap (λ b. b && has_shared (fits c) fs ts) en ∙ exact_parts (fits c) fs ts
    ∙ sym (rw (ed, et) (fits-Rec c fs Exact ts))

pub wide_is : (c : Defs) (d : Datum) (t : Ty) (fs : List (List ℕ × Datum)) (ts : List (List ℕ × Ty)) (n r : Bool)
    → d ≡ D.Rec fs → t ≡ ty.Rec Wide ts → n ≡ all_in (λ m. is_some (lookup m fs)) (names ts)
    → r ≡ (n && has_shared (fits c) fs ts) → r ≡ fits c d t
wide_is c d t fs ts n r ed et en er =
    er ∙ ap (λ b. b && has_shared (fits c) fs ts) en ∙ wide_parts (fits c) fs ts
    ∙ sym (rw (ed, et) (fits-Rec c fs Wide ts))

module _ {A T : Type 0} (r : A → T → Bool) (fs : List (List ℕ × A)) (ts : List (List ℕ × T)) (us : List (List ℕ × A))
    (k : ℕ) (p : List ℕ × A) where
  abbrev Left : ℕ → Bool
  Left i = all_in (λ n. at_shared r (lookup n fs) (lookup n ts)) (names (drop i us))

  -- from one field to the next
  pub step : (n : List ℕ) (o : Option T) (whole b : Bool) → whole ≡ Left k → us ≡ fs → Rising us → k < length us
      → p ≡ get_or us k p → n ≡ p.0 → o ≡ lookup n ts → at_shared r (Some p.1) o ≡ b → whole ≡ (b && Left (k + 1))
  step n o whole b w e h lt ip en eo eb =
      let at : lookup p.0 ts ≡ o =
      ap (λ m. lookup m ts) (sym en) ∙ sym eo in w ∙ shared_more r fs ts us k p e h lt ip ∙ rw (at, eb) refl

pub ruleset by_layer = (datum_lemmas, the_lemmas, fits_out)
