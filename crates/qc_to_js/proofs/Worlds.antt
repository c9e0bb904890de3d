-- The datum of a world is plain, since the names of its fields do not begin as markers do.
use Rattle.std.proofs.Common.{◌≡◌, ◌∙◌, ℕ, Bool, true, false, List, [], ◌∷◌, map, refl, sym, ap, true≢false}
use Rattle.std.specs.Prelude.{◌&&◌, codes}
use Rattle.std.specs.List.{AllByRecursion}
use Rattle.std.specs.Str.{bytes_eq}
use Rattle.std.proofs.lemmas.Slice.Eq.{bytes_eq-Decides}
use Rattle.qc_containers.specs.Name.{is_marker}
use Rattle.qc_containers.specs.Rising.{on_value}
use Rattle.qc_containers.proofs.Truth.{and_parts, and_both}
use Rattle.qc_data.specs.Facts.{all_true, rising, within64}
use Rattle.qc_data.specs.declared.data.Datum.{Datum}
use Rattle.qc_data.specs.declared.data.Datum.TheOpen.{Datum-F}
use Rattle.qc_data.specs.declared.data.Datum.TheViews.{roll-Datum}
use Rattle.qc_data.specs.declared.data.Datum.TheFolds.{fold-roll-Datum, map-Datum}
use Rattle.qc_data.specs.declared.data.Datum.TheVariants as D
use Rattle.qc_data.proofs.Induction.{every_datum}
use Rattle.qc_lang.specs.Keeping.{IsOf}
use Rattle.qc_types.specs.Schemas.{SchemaOf, WorldOf, user, user_fields, user_named, user_step}
use Rattle.qc_types.specs.Types.{fits}
use Rattle.qc_types.specs.declared.ty.Ty.TheVariants as ty
use Rattle.qc_types.specs.declared.ty.Width.TheVariants.{Exact}
use Rattle.qc_rt.specs.Laws.{plain, plain_step}
use Rattle.qc_rt.proofs.PlainLaws.{plain_fields, plain-Unit, plain-Bool, plain-Int, plain-Text, plain-Coll, plain-Rec}
use Rattle.qc_rt.proofs.PlainLaws.{plain-Left, plain-Right, plain-Brand}

user-roll : (x : Datum-F Datum) → user_named (roll-Datum x) ≡ user_step (map-Datum Datum Bool user_named x)
user-roll x = fold-roll-Datum Bool user_step x

user-Coll : (ds : List Datum) → user_named (D.Coll ds) ≡ all_true (map user_named ds)
user-Coll ds = ap user_named (sym (D.rolls-Coll ds)) ∙ user-roll (Datum-F.Coll ds)

user-Rec : (fs : List (List ℕ × Datum)) → user_named (D.Rec fs) ≡ user_fields (map (on_value user_named) fs)
user-Rec fs = ap user_named (sym (D.rolls-Rec fs)) ∙ user-roll (Datum-F.Rec fs)

user-Left : (d : Datum) → user_named (D.Left d) ≡ user_named d
user-Left d = ap user_named (sym (D.rolls-Left d)) ∙ user-roll (Datum-F.Left d)

user-Right : (d : Datum) → user_named (D.Right d) ≡ user_named d
user-Right d = ap user_named (sym (D.rolls-Right d)) ∙ user-roll (Datum-F.Right d)

user-Brand : (n : List ℕ) (d : Datum) → user_named (D.Brand n d) ≡ (user n && user_named d)
user-Brand n d = ap user_named (sym (D.rolls-Brand n d)) ∙ user-roll (Datum-F.Brand n d)

-- a name of a user's is no marker
unlike : (n m : List ℕ) (same : Bool) → bytes_eq n m ≡ same → user n ≡ true → user m ≡ false → same ≡ false
unlike n m true e h k = absurd (true≢false (sym h ∙ ap user ((bytes_eq-Decides n m).0 e) ∙ k))
unlike n m false e h k = refl

unlike_marker : (n m : List ℕ) → user n ≡ true → user m ≡ false → bytes_eq n m ≡ false
unlike_marker n m h k = unlike n m (bytes_eq n m) refl h k

user_unmarked : (n : List ℕ) → user n ≡ true → is_marker n ≡ false
user_unmarked n h =
    rw (
      unlike_marker n (codes "$left") h refl,
      unlike_marker n (codes "$right") h refl,
      unlike_marker n (codes "$class") h refl,
      unlike_marker n (codes "$data") h refl,
    ) refl

abbrev IsPlain : Datum → Type 0
IsPlain d = user_named d ≡ true → plain d ≡ true

items_plain : (ds : List Datum) → AllByRecursion IsPlain ds → all_true (map user_named ds) ≡ true
    → all_true (map plain ds) ≡ true
items_plain [] h n = refl
items_plain (d ∷ ds) h n =
    let p = and_parts (user_named d) (all_true (map user_named ds)) n in
    and_both (plain d) (all_true (map plain ds)) (h.0 p.0) (items_plain ds h.1 p.1)

fields_plain : (fs : List (List ℕ × Datum)) → AllByRecursion (λ f. IsPlain f.1) fs
    → user_fields (map (on_value user_named) fs) ≡ true → plain_step (Datum-F.Rec (map (on_value plain) fs)) ≡ true
fields_plain [] h n = refl
fields_plain (f ∷ fs) h n =
    let p = and_parts (user f.0) (user_named f.1 && user_fields (map (on_value user_named) fs)) n in
    let q = and_parts (user_named f.1) (user_fields (map (on_value user_named) fs)) p.1 in
    plain_fields f.0 (plain f.1) (map (on_value plain) fs) (user_unmarked f.0 p.0) (h.0 q.0) (fields_plain fs h.1 q.1)

user_plain : (d : Datum) → user_named d ≡ true → plain d ≡ true
user_plain = every_datum IsPlain record {
  unit = λ n. plain-Unit;
  bool = λ b n. plain-Bool b;
  int = λ k n. plain-Int k;
  text = λ s n. plain-Text s;
  coll = λ ds h n. plain-Coll ds ∙ items_plain ds h (sym (user-Coll ds) ∙ n);
  rec = λ fs h n. plain-Rec fs ∙ fields_plain fs h (sym (user-Rec fs) ∙ n);
  left = λ d h n. plain-Left d ∙ h (sym (user-Left d) ∙ n);
  right = λ d h n. plain-Right d ∙ h (sym (user-Right d) ∙ n);
  brand = λ c d h n. plain-Brand c d ∙ h (and_parts (user c) (user_named d) (sym (user-Brand c d) ∙ n)).1;
}

pub world_plain : (schema : SchemaOf) (w : WorldOf) → IsOf schema w → plain w.datum ≡ true
world_plain schema w of =
    let p = and_parts (fits schema.classes w.datum (ty.Rec Exact schema.globals))
    (user_named w.datum && (rising w.datum && within64 w.datum)) of.datum in
    user_plain w.datum (and_parts (user_named w.datum) (rising w.datum && within64 w.datum) p.1).0
