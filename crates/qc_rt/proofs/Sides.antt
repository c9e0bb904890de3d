-- On encodings of plain data `isleft` and `payload` give the encodings of what is on a side.
use Rattle.std.proofs.Common.{◌≡◌, Bool, true, false, [], ◌∷◌, map, refl, sym, ap, ◌∙◌}
use Rattle.std.specs.Prelude.{not}
use Rattle.qc_containers.specs.Rising.{on_value}
use Rattle.qc_containers.proofs.Truth.{and_parts, not_true}
use Rattle.qc_data.specs.Encoding.{enc, encoded}
use Rattle.qc_data.specs.Facts.{all_values}
use Rattle.qc_data.specs.Outcome.{Mode, Value, and_then}
use Rattle.qc_data.specs.declared.data.Datum.{Datum}
use Rattle.qc_data.specs.declared.data.Datum.TheOpen.{Datum-F}
use Rattle.qc_data.specs.declared.data.Datum.TheViews.{out-Datum}
use Rattle.qc_data.specs.declared.data.Datum.TheFolds.{map-Datum}
use Rattle.qc_data.specs.declared.data.Datum.TheVariants.{Bool as Truth, Rec}
use Rattle.qc_data.proofs.Layers.{roll-out}
use Rattle.qc_ops.specs.Sides as operators
use Rattle.qc_rt.specs.Laws.{plain, plain_step}
use Rattle.qc_rt.specs.Parameters.{side_at}
use Rattle.qc_rt.specs.Runtime.{runtime}
use Rattle.qc_rt.specs.Seen.{is_odd, is_odd_at, has_marker, shown}
use Rattle.qc_rt.specs.declared.function.Rt.TheVariants as rt
use Rattle.qc_rt.proofs.Encoding.{shown-plain}
use Rattle.qc_rt.proofs.Markers.{has_marker-map}
use Rattle.qc_rt.proofs.PlainData.{Plain}
use Rattle.qc_rt.proofs.PlainLaws.{plain-roll, plain-Bool, plain-Rec}
use Rattle.qc_rt.proofs.Returned.{seen-enc}

-- one layer of a plain datum
abbrev PlainAt : Datum-F Datum → Type 0
PlainAt x = plain_step (map-Datum Datum Bool plain x) ≡ true

plain_at : (d : Datum) → Plain d → PlainAt (out-Datum d)
plain_at d h = sym (plain-roll (out-Datum d)) ∙ ap plain (roll-out d) ∙ h

not_odd_at : (x : Datum-F Datum) → PlainAt x → is_odd_at x ≡ false
not_odd_at (Datum-F.Rec ps) h =
    sym (has_marker-map plain ps) ∙ not_true (has_marker (map (on_value plain) ps))
    (and_parts (not (has_marker (map (on_value plain) ps))) (all_values (map (on_value plain) ps)) h).0
not_odd_at Datum-F.Unit h = refl
not_odd_at (Datum-F.Bool b) h = refl
not_odd_at (Datum-F.Int n) h = refl
not_odd_at (Datum-F.Text s) h = refl
not_odd_at (Datum-F.Coll ds) h = refl
not_odd_at (Datum-F.Left d) h = refl
not_odd_at (Datum-F.Right d) h = refl
not_odd_at (Datum-F.Brand n d) h = refl

not_odd : (d : Datum) → Plain d → is_odd d ≡ false
not_odd d h = not_odd_at (out-Datum d) (plain_at d h)

-- what is made of a side and what is on it
module _ (g : Bool × Datum → Datum) (stays : (b : Bool) (d : Datum) → Plain d → Plain (g (b, d))) where
  sides_at : (x : Datum-F Datum) → PlainAt x
      → and_then (and_then (side_at x) (λ s. Value (g s))) (λ d. Value (shown d))
      ≡ encoded (operators.side_at (λ d. Value (g (true, d))) (λ d. Value (g (false, d))) x)
  sides_at (Datum-F.Left d) h = rw (not_odd d h) (ap Value (shown-plain (g (true, d)) (stays true d h)))
  sides_at (Datum-F.Right d) h = ap Value (shown-plain (g (false, d)) (stays false d h))
  sides_at Datum-F.Unit h = refl
  sides_at (Datum-F.Bool b) h = refl
  sides_at (Datum-F.Int n) h = refl
  sides_at (Datum-F.Text s) h = refl
  sides_at (Datum-F.Coll ds) h = refl
  sides_at (Datum-F.Rec ps) h = refl
  sides_at (Datum-F.Brand n d) h = refl

pub isleft_encoded : (m : Mode) (a : Datum) → Plain a
    → runtime m rt.IsLeft (enc a ∷ [])
    ≡ encoded (operators.by_side (λ d. Value (Truth true)) (λ d. Value (Truth false)) a)
isleft_encoded m a h =
    ap (λ d. and_then (and_then (side_at (out-Datum d)) (λ s. Value (Truth s.0))) (λ d. Value (shown d))) (seen-enc a h)
    ∙ sides_at (λ s. Truth s.0) (λ b d p. plain-Bool b) (out-Datum a) (plain_at a h)

pub payload_encoded : (m : Mode) (a : Datum) → Plain a
    → runtime m rt.Payload (enc a ∷ []) ≡ encoded (operators.by_side (λ d. Value d) (λ d. Value d) a)
payload_encoded m a h =
    ap (λ d. and_then (and_then (side_at (out-Datum d)) (λ s. Value s.1)) (λ d. Value (shown d))) (seen-enc a h)
    ∙ sides_at (λ s. s.1) (λ b d p. p) (out-Datum a) (plain_at a h)

-- the record of no fields
pub nothing_encoded : (m : Mode) → runtime m rt.Nothing [] ≡ Value (enc (Rec []))
nothing_encoded m = ap Value (shown-plain (Rec []) (plain-Rec []))
