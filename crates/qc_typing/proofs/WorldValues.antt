-- The values of a world's globals, by their types.
use Rattle.std.proofs.Common.{◌≡◌, ℕ, List, Option, Some, None, IsTrue, refl, ap, ◌∙◌, subst}
use Rattle.qc_data.specs.Facts.{rising}
use Rattle.qc_data.specs.Outcome.{any_size}
use Rattle.qc_containers.specs.Pairs.{lookup}
use Rattle.qc_data.specs.declared.data.Datum.{Datum}
use Rattle.qc_data.specs.declared.data.Datum.TheOpen.{Datum-F}
use Rattle.qc_data.specs.declared.data.Datum.TheViews.{out-Datum}
use Rattle.qc_types.specs.declared.ty.Width.TheVariants.{Exact}
use Rattle.qc_types.specs.declared.ty.Ty.{Ty}
use Rattle.qc_types.specs.declared.ty.Ty.TheVariants as ty
use Rattle.qc_types.specs.Classes.{Defs}
use Rattle.qc_types.specs.Rows.{at_field}
use Rattle.qc_types.specs.Schemas.{fields_at, global, is_world}
use Rattle.qc_types.specs.Types.{fits}
use Rattle.qc_types.proofs.Inductions.{found as value_at}
use Rattle.qc_types.proofs.WorldLaws.{world_fits, world_rising}
use Rattle.qc_ops.specs.Operands.{as_rec}
use Rattle.qc_typing.specs.Kinds.{record_at, record_parts}
use Rattle.qc_typing.specs.Typed.{HasType}
use Rattle.qc_typing.proofs.Outcomes.{typed_at, value_of}
use Rattle.qc_typing.proofs.Values.{Fields, out-Rec, record_typed}
use Rattle.qc_typing.proofs.RecordValues.{fields_at_names}

module _ (c : Defs) (gs : List (List ℕ × Ty)) (d : Datum) where
  -- a world is a record of exactly its globals
  pub world_typed : IsTrue (is_world c gs d) → HasType c d (ty.Rec Exact gs)
  world_typed w = record { fitting = world_fits c gs d w; records = world_rising c gs d w }

  field_typed : (n : List ℕ) (t : Ty) (fs : List (List ℕ × Datum)) (o : Option Datum) → lookup n fs ≡ o
      → Fields c Exact gs fs → IsTrue (at_field (fits c) o (Some t)) → (v : Datum) × (o ≡ Some v) × HasType c v t
  field_typed n t fs None e f h = absurd (cc)
  field_typed n t fs (Some v) e f h =
      (v, refl, record { fitting = h; records = value_at (λ x. IsTrue (rising x)) fs f.values n v e })

  global_at : (n : List ℕ) (t : Ty) (fs : List (List ℕ × Datum)) → lookup n gs ≡ Some t → out-Datum d ≡ Datum-F.Rec fs
      → Fields c Exact gs fs → (v : Datum) × (global n d ≡ Some v) × HasType c v t
  global_at n t fs e is f =
      let P : Option Ty → Type 0 = λ o. IsTrue (at_field (fits c) (lookup n fs) o) in
      let v = field_typed n t fs (lookup n fs) refl f (subst P e (fields_at_names Exact (fits c) fs gs f.fitting n)) in
      (v.0, ap (λ x. lookup n (fields_at x)) is ∙ v.1, v.2)

  -- a global has a value of its type
  pub global_typed : HasType c d (ty.Rec Exact gs) → (n : List ℕ) (t : Ty) → lookup n gs ≡ Some t
      → (v : Datum) × (global n d ≡ Some v) × HasType c v t
  global_typed h n t e =
      let w = value_of _ (as_rec d) (typed_at any_size _ (record_parts (ty.Rec Exact gs)) (Exact, gs) (as_rec d)
      (ap record_at (out-Rec Exact gs)) (record_typed c any_size d (ty.Rec Exact gs) h)) in
      global_at n t w.0 e w.1.0 w.1.1
