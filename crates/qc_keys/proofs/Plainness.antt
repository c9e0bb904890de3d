-- What has no collection inside is its own canon.
use Rattle.std.proofs.Common.{◌≡◌, ℕ, Bool, true, false, List, [], ◌∷◌, map, refl, sym, ap, ◌∙◌, true≢false}
use Rattle.std.specs.List.{AllByRecursion}
use Rattle.std.specs.Prelude.{IfOk, Result, Ok, Err}
use Rattle.qc_containers.proofs.Truth.{and_parts}
use Rattle.qc_containers.specs.Rising.{on_value}
use Rattle.qc_data.specs.Order.{canon}
use Rattle.qc_data.specs.declared.data.Datum.{Datum}
use Rattle.qc_data.specs.declared.data.Datum.TheOpen.{Datum-F}
use Rattle.qc_data.specs.declared.data.Datum.TheFolds.{fold-roll-Datum}
use Rattle.qc_data.specs.declared.data.Datum.TheVariants as D
use Rattle.qc_data.proofs.CanonLaws.{canon-Unit, canon-Bool, canon-Int, canon-Text, canon-Rec, canon-Left, canon-Right}
use Rattle.qc_data.proofs.CanonLaws.{canon-Brand}
use Rattle.qc_data.proofs.Induction.{every_datum}
use Rattle.qc_keys.specs.inner.Plain.{all_plain, plain, plain_step}

plain-Coll : (items : List Datum) → plain (D.Coll items) ≡ false
plain-Coll items =
    ap plain (sym (D.rolls-Coll items)) ∙ fold-roll-Datum Bool plain_step (Datum-F.Coll items)

plain-Rec : (fields : List (List ℕ × Datum)) → plain (D.Rec fields) ≡ all_plain (map (on_value plain) fields)
plain-Rec fields = ap plain (sym (D.rolls-Rec fields)) ∙ fold-roll-Datum Bool plain_step (Datum-F.Rec fields)

plain-Left : (d : Datum) → plain (D.Left d) ≡ plain d
plain-Left d = ap plain (sym (D.rolls-Left d)) ∙ fold-roll-Datum Bool plain_step (Datum-F.Left d)

plain-Right : (d : Datum) → plain (D.Right d) ≡ plain d
plain-Right d = ap plain (sym (D.rolls-Right d)) ∙ fold-roll-Datum Bool plain_step (Datum-F.Right d)

plain-Brand : (name : List ℕ) (d : Datum) → plain (D.Brand name d) ≡ plain d
plain-Brand name d =
    ap plain (sym (D.rolls-Brand name d)) ∙ fold-roll-Datum Bool plain_step (Datum-F.Brand name d)

abbrev Settled : Datum → Type 0
Settled d = plain d ≡ true → canon d ≡ d

fields_settled : (ps : List (List ℕ × Datum)) → AllByRecursion (λ p. Settled p.1) ps
    → all_plain (map (on_value plain) ps) ≡ true → map (on_value canon) ps ≡ ps
fields_settled [] all e = refl
fields_settled (p ∷ ps) all e =
    let parts = and_parts (plain p.1) (all_plain (map (on_value plain) ps)) e in
    λ i. (p.0, all.0 parts.0 i) ∷ fields_settled ps all.1 parts.1 i

pub canon_plain : (d : Datum) → plain d ≡ true → canon d ≡ d
canon_plain =
    every_datum Settled (record {
      unit = λ e. canon-Unit;
      bool = λ b e. canon-Bool b;
      int = λ n e. canon-Int n;
      text = λ text e. canon-Text text;
      coll = λ items all e. absurd (true≢false (sym e ∙ plain-Coll items));
      rec = λ fields all e. canon-Rec fields ∙ ap D.Rec (fields_settled fields all (sym (plain-Rec fields) ∙ e));
      left = λ d h e. canon-Left d ∙ ap D.Left (h (sym (plain-Left d) ∙ e));
      right = λ d h e. canon-Right d ∙ ap D.Right (h (sym (plain-Right d) ∙ e));
      brand = λ name d h e. canon-Brand name d ∙ ap (D.Brand name) (h (sym (plain-Brand name d) ∙ e));
    })

-- a copy of it is its canon
pub copy_is_canon : {E : Type 0} (r : Result Datum E) (d : Datum) → IfOk r (λ made. made ≡ d) → plain d ≡ true
    → IfOk r (λ made. made ≡ canon d)
copy_is_canon (Ok made) d is e = is ∙ sym (canon_plain d e)
copy_is_canon (Err w) d is e = tt
