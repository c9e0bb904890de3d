-- What holds of worlds and schemas: what their globals fit, and what is known of names.
use Rattle.std.proofs.Common.{◌≡◌, ℕ, List, [], ◌∷◌, Option, Some, None, Bool, true, false, ◌&&◌, cond, IsTrue, ◌↔◌}
use Rattle.std.proofs.Common.{refl, sym, ap, ◌∙◌, subst, rules, tests}
use Rattle.std.specs.Str.{bytes_eq}
use Rattle.std.proofs.lemmas.Slice.Eq.{bytes_eq-Decides}
use Rattle.qc_data.specs.Facts.{rising, within64}
use Rattle.qc_containers.specs.Name.{IsUser}
use Rattle.qc_containers.specs.Pairs.{lookup}
use Rattle.qc_data.specs.declared.data.Datum.{Datum}
use Rattle.qc_data.specs.declared.data.Datum.TheOpen.{Datum-F}
use Rattle.qc_data.specs.declared.data.Datum.TheViews.{out-Datum}
use Rattle.qc_types.specs.declared.ty.Width.TheVariants.{Exact}
use Rattle.qc_types.specs.declared.ty.Ty.{Ty, the_lemmas}
use Rattle.qc_types.specs.declared.ty.Ty.TheOpen.{Ty-F}
use Rattle.qc_types.specs.declared.ty.Ty.TheViews.{out-Ty}
use Rattle.qc_types.specs.declared.ty.Ty.TheVariants as ty
use Rattle.qc_types.specs.Classes.{Defs}
use Rattle.qc_types.specs.Rows.{at_field, has_fields, names, same_names}
use Rattle.qc_types.specs.Schemas.{fields_at, global, good_globals, is_world, lists, user, user_named}
use Rattle.qc_types.specs.Types.{fits, fits_layer}
use Rattle.qc_types.proofs.RowLaws.{and_parts, has_at}
use Rattle.qc_types.proofs.TypeLaws.{fits_out}

-- the test of user names says what `IsUser` says
pub user_is : (n : List ℕ) → IsTrue (user n) ↔ IsUser n
user_is [] = (λ h. tt, λ h. refl)
user_is (b ∷ bs) = search (rules, tests)

module _ (c : Defs) (gs : List (List ℕ × Ty)) (d : Datum) (w : IsTrue (is_world c gs d)) where
  pub world_fits : IsTrue (fits c d (ty.Rec Exact gs))
  world_fits = (and_parts (fits c d (ty.Rec Exact gs)) (user_named d && (rising d && within64 d)) w).0

  further : IsTrue (user_named d && (rising d && within64 d))
  further = (and_parts (fits c d (ty.Rec Exact gs)) (user_named d && (rising d && within64 d)) w).1

  pub world_named : IsTrue (user_named d)
  world_named = (and_parts (user_named d) (rising d && within64 d) further).0

  pub world_rising : IsTrue (rising d)
  world_rising = (and_parts (rising d) (within64 d) (and_parts (user_named d) (rising d && within64 d) further).1).0

  pub world_within : IsTrue (within64 d)
  world_within = (and_parts (rising d) (within64 d) (and_parts (user_named d) (rising d && within64 d) further).1).1

out-Rec : (gs : List (List ℕ × Ty)) → out-Ty (ty.Rec Exact gs) ≡ Ty-F.Rec Exact gs
out-Rec gs = search (rules, the_lemmas)

field_there : (c : Defs) (n : List ℕ) (t : Ty) (x : Option Datum) → IsTrue (at_field (fits c) x (Some t))
    → (v : Datum) × (x ≡ Some v) × IsTrue (fits c v t)
field_there c n t None h = absurd (cc)
field_there c n t (Some v) h = (v, refl, h)

in_layer : (c : Defs) (gs : List (List ℕ × Ty)) (n : List ℕ) (t : Ty) → lookup n gs ≡ Some t → (x : Datum-F Datum)
    → IsTrue (fits_layer c (fits c) x (Ty-F.Rec Exact gs))
    → IsTrue (at_field (fits c) (lookup n (fields_at x)) (Some t))
in_layer c gs n t e (Datum-F.Rec fs) h =
    let P : Option Ty → Type 0 = λ o. IsTrue (at_field (fits c) (lookup n fs) o) in
    subst P e (has_at (fits c) fs gs (and_parts (same_names (names fs) (names gs)) (has_fields (fits c) fs gs) h).1 n)
in_layer c gs n t e x h = absurd (cc)

-- a global has a value, which fits its type
pub global_fits : (c : Defs) (gs : List (List ℕ × Ty)) (d : Datum) → IsTrue (is_world c gs d) → (n : List ℕ) (t : Ty)
    → lookup n gs ≡ Some t → (v : Datum) × (global n d ≡ Some v) × IsTrue (fits c v t)
global_fits c gs d w n t e =
    field_there c n t (global n d) (in_layer c gs n t e (out-Datum d)
    (ap (fits_layer c (fits c) (out-Datum d)) (sym (out-Rec gs)) ∙ sym (fits_out c d (ty.Rec Exact gs))
    ∙ world_fits c gs d w))

good_at : (c : Defs) (m n : List ℕ) (u t : Ty) (o : Option Ty) (b : Bool) → bytes_eq m n ≡ b
    → cond b (Some u) o ≡ Some t → IsTrue (user m) → IsTrue (lists c u)
    → (o ≡ Some t → IsTrue (user n) × IsTrue (lists c t)) → IsTrue (user n) × IsTrue (lists c t)
good_at c m n u t o true e k h i later =
    let un : Option Ty → Ty = λ x. elim x [ Some v ↦ v | None ↦ u ] in
    let P : List ℕ → Type 0 = λ x. IsTrue (user x) in let Q : Ty → Type 0 = λ x. IsTrue (lists c x) in
    (subst P ((bytes_eq-Decides m n).0 e) h, subst Q (ap un k) i)
good_at c m n u t o false e k h i later = later k

-- a global's name is a user name, and its type names listed classes alone
pub global_good : (c : Defs) (gs : List (List ℕ × Ty)) → IsTrue (good_globals c gs) → (n : List ℕ) (t : Ty)
    → lookup n gs ≡ Some t → IsTrue (user n) × IsTrue (lists c t)
global_good c [] h n t e = absurd (cc)
global_good c (g ∷ gs) h n t e =
    let a = and_parts (user g.0) (lists c g.1 && good_globals c gs) h in
    let b = and_parts (lists c g.1) (good_globals c gs) a.1 in
    good_at c g.0 n g.1 t (lookup n gs) (bytes_eq g.0 n) refl e a.0 b.0 (global_good c gs b.1 n t)
