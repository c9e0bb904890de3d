-- Twins at each kind of datum.
use Rattle.std.proofs.Common.{◌≡◌, ℕ, ℤ, Bool, List, [], ◌∷◌, map, sym, ap, ◌∙◌}
use Rattle.std.specs.Prelude.{codes}
use Rattle.qc_containers.specs.Rising.{on_value}
use Rattle.qc_data.specs.declared.data.Datum.{Datum}
use Rattle.qc_data.specs.declared.data.Datum.TheOpen.{Datum-F}
use Rattle.qc_data.specs.declared.data.Datum.TheViews.{roll-Datum}
use Rattle.qc_data.specs.declared.data.Datum.TheFolds.{map-Datum, fold-roll-Datum}
use Rattle.qc_data.specs.declared.data.Datum.TheVariants as D
use Rattle.qc_seen.specs.Twins.{class_twin, numbered, twin, twin_step}

twin-roll : (x : Datum-F Datum) → twin (roll-Datum x) ≡ twin_step (map-Datum Datum Datum twin x)
twin-roll x = fold-roll-Datum Datum twin_step x

pub twin-Unit : twin D.Unit ≡ D.Unit
twin-Unit = ap twin (sym D.rolls-Unit) ∙ twin-roll Datum-F.Unit ∙ D.rolls-Unit

pub twin-Bool : (b : Bool) → twin (D.Bool b) ≡ D.Bool b
twin-Bool b = ap twin (sym (D.rolls-Bool b)) ∙ twin-roll (Datum-F.Bool b) ∙ D.rolls-Bool b

pub twin-Int : (n : ℤ) → twin (D.Int n) ≡ D.Int n
twin-Int n = ap twin (sym (D.rolls-Int n)) ∙ twin-roll (Datum-F.Int n) ∙ D.rolls-Int n

pub twin-Text : (s : List ℕ) → twin (D.Text s) ≡ D.Text s
twin-Text s = ap twin (sym (D.rolls-Text s)) ∙ twin-roll (Datum-F.Text s) ∙ D.rolls-Text s

pub twin-Coll : (ds : List Datum) → twin (D.Coll ds) ≡ D.Coll (map twin ds)
twin-Coll ds = ap twin (sym (D.rolls-Coll ds)) ∙ twin-roll (Datum-F.Coll ds) ∙ D.rolls-Coll (map twin ds)

pub twin-Rec : (ps : List (List ℕ × Datum))
    → twin (D.Rec ps) ≡ D.Rec ((codes "a", D.Coll (numbered 0 (map (on_value twin) ps))) ∷ [])
twin-Rec ps = ap twin (sym (D.rolls-Rec ps)) ∙ twin-roll (Datum-F.Rec ps)

pub twin-Left : (d : Datum) → twin (D.Left d) ≡ D.Left (twin d)
twin-Left d = ap twin (sym (D.rolls-Left d)) ∙ twin-roll (Datum-F.Left d) ∙ D.rolls-Left (twin d)

pub twin-Right : (d : Datum) → twin (D.Right d) ≡ D.Right (twin d)
twin-Right d = ap twin (sym (D.rolls-Right d)) ∙ twin-roll (Datum-F.Right d) ∙ D.rolls-Right (twin d)

pub twin-Brand : (n : List ℕ) (d : Datum) → twin (D.Brand n d) ≡ class_twin n (twin d)
twin-Brand n d = ap twin (sym (D.rolls-Brand n d)) ∙ twin-roll (Datum-F.Brand n d)

pub ruleset twin_forms = (
  twin-Unit,
  twin-Bool,
  twin-Int,
  twin-Text,
  twin-Coll,
  twin-Rec,
  twin-Left,
  twin-Right,
  twin-Brand,
)
