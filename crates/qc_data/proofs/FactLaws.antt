-- What `named`, `rising` and `within` are at each kind.
use Rattle.std.proofs.Common.{◌≡◌, ℕ, ℤ, Bool, true, List, map, sym, ap, ◌∙◌}
use Rattle.std.specs.Prelude.{◌&&◌, int_le}
use Rattle.qc_data.specs.Facts.{named, named_step, rising, rising_step, within, within_step, all_true, all_named}
use Rattle.qc_data.specs.Facts.{all_values, rise}
use Rattle.qc_containers.specs.Name.{is_name}
use Rattle.qc_containers.specs.Rising.{on_value}
use Rattle.qc_data.specs.declared.data.Datum.{Datum}
use Rattle.qc_data.specs.declared.data.Datum.TheOpen.{Datum-F}
use Rattle.qc_data.specs.declared.data.Datum.TheViews.{roll-Datum}
use Rattle.qc_data.specs.declared.data.Datum.TheFolds.{map-Datum, fold-roll-Datum}
use Rattle.qc_data.specs.declared.data.Datum.TheVariants as D

pub named-roll : (x : Datum-F Datum) → named (roll-Datum x) ≡ named_step (map-Datum Datum Bool named x)
named-roll x = fold-roll-Datum Bool named_step x

pub named-Unit : named D.Unit ≡ true
named-Unit = ap named (sym D.rolls-Unit) ∙ named-roll Datum-F.Unit

pub named-Bool : (b : Bool) → named (D.Bool b) ≡ true
named-Bool b = ap named (sym (D.rolls-Bool b)) ∙ named-roll (Datum-F.Bool b)

pub named-Int : (n : ℤ) → named (D.Int n) ≡ true
named-Int n = ap named (sym (D.rolls-Int n)) ∙ named-roll (Datum-F.Int n)

pub named-Text : (text : List ℕ) → named (D.Text text) ≡ true
named-Text text = ap named (sym (D.rolls-Text text)) ∙ named-roll (Datum-F.Text text)

pub named-Coll : (items : List Datum) → named (D.Coll items) ≡ all_true (map named items)
named-Coll items = ap named (sym (D.rolls-Coll items)) ∙ named-roll (Datum-F.Coll items)

pub named-Rec : (fields : List (List ℕ × Datum)) → named (D.Rec fields) ≡ all_named (map (on_value named) fields)
named-Rec fields = ap named (sym (D.rolls-Rec fields)) ∙ named-roll (Datum-F.Rec fields)

pub named-Left : (d : Datum) → named (D.Left d) ≡ named d
named-Left d = ap named (sym (D.rolls-Left d)) ∙ named-roll (Datum-F.Left d)

pub named-Right : (d : Datum) → named (D.Right d) ≡ named d
named-Right d = ap named (sym (D.rolls-Right d)) ∙ named-roll (Datum-F.Right d)

pub named-Brand : (name : List ℕ) (d : Datum) → named (D.Brand name d) ≡ (is_name name && named d)
named-Brand name d = ap named (sym (D.rolls-Brand name d)) ∙ named-roll (Datum-F.Brand name d)

pub rising-roll : (x : Datum-F Datum) → rising (roll-Datum x) ≡ rising_step (map-Datum Datum Bool rising x)
rising-roll x = fold-roll-Datum Bool rising_step x

pub rising-Unit : rising D.Unit ≡ true
rising-Unit = ap rising (sym D.rolls-Unit) ∙ rising-roll Datum-F.Unit

pub rising-Bool : (b : Bool) → rising (D.Bool b) ≡ true
rising-Bool b = ap rising (sym (D.rolls-Bool b)) ∙ rising-roll (Datum-F.Bool b)

pub rising-Int : (n : ℤ) → rising (D.Int n) ≡ true
rising-Int n = ap rising (sym (D.rolls-Int n)) ∙ rising-roll (Datum-F.Int n)

pub rising-Text : (text : List ℕ) → rising (D.Text text) ≡ true
rising-Text text = ap rising (sym (D.rolls-Text text)) ∙ rising-roll (Datum-F.Text text)

pub rising-Coll : (items : List Datum) → rising (D.Coll items) ≡ all_true (map rising items)
rising-Coll items = ap rising (sym (D.rolls-Coll items)) ∙ rising-roll (Datum-F.Coll items)

pub rising-Rec : (fields : List (List ℕ × Datum))
    → rising (D.Rec fields) ≡ (rise (map (on_value rising) fields) && all_values (map (on_value rising) fields))
rising-Rec fields = ap rising (sym (D.rolls-Rec fields)) ∙ rising-roll (Datum-F.Rec fields)

pub rising-Left : (d : Datum) → rising (D.Left d) ≡ rising d
rising-Left d = ap rising (sym (D.rolls-Left d)) ∙ rising-roll (Datum-F.Left d)

pub rising-Right : (d : Datum) → rising (D.Right d) ≡ rising d
rising-Right d = ap rising (sym (D.rolls-Right d)) ∙ rising-roll (Datum-F.Right d)

pub rising-Brand : (name : List ℕ) (d : Datum) → rising (D.Brand name d) ≡ rising d
rising-Brand name d = ap rising (sym (D.rolls-Brand name d)) ∙ rising-roll (Datum-F.Brand name d)

pub within-roll : (low high : ℤ) (x : Datum-F Datum)
    → within low high (roll-Datum x) ≡ within_step low high (map-Datum Datum Bool (within low high) x)
within-roll low high x = fold-roll-Datum Bool (within_step low high) x

pub within-Unit : (low high : ℤ) → within low high D.Unit ≡ true
within-Unit low high = ap (within low high) (sym D.rolls-Unit) ∙ within-roll low high Datum-F.Unit

pub within-Bool : (low high : ℤ) (b : Bool) → within low high (D.Bool b) ≡ true
within-Bool low high b = ap (within low high) (sym (D.rolls-Bool b)) ∙ within-roll low high (Datum-F.Bool b)

pub within-Int : (low high : ℤ) (n : ℤ) → within low high (D.Int n) ≡ (int_le low n && int_le n high)
within-Int low high n = ap (within low high) (sym (D.rolls-Int n)) ∙ within-roll low high (Datum-F.Int n)

pub within-Text : (low high : ℤ) (text : List ℕ) → within low high (D.Text text) ≡ true
within-Text low high text = ap (within low high) (sym (D.rolls-Text text)) ∙ within-roll low high (Datum-F.Text text)

pub within-Coll : (low high : ℤ) (items : List Datum)
    → within low high (D.Coll items) ≡ all_true (map (within low high) items)
within-Coll low high items = ap (within low high) (sym (D.rolls-Coll items)) ∙ within-roll low high (Datum-F.Coll items)

pub within-Rec : (low high : ℤ) (fields : List (List ℕ × Datum))
    → within low high (D.Rec fields) ≡ all_values (map (on_value (within low high)) fields)
within-Rec low high fields = ap (within low high) (sym (D.rolls-Rec fields)) ∙ within-roll low high (Datum-F.Rec fields)

pub within-Left : (low high : ℤ) (d : Datum) → within low high (D.Left d) ≡ within low high d
within-Left low high d = ap (within low high) (sym (D.rolls-Left d)) ∙ within-roll low high (Datum-F.Left d)

pub within-Right : (low high : ℤ) (d : Datum) → within low high (D.Right d) ≡ within low high d
within-Right low high d = ap (within low high) (sym (D.rolls-Right d)) ∙ within-roll low high (Datum-F.Right d)

pub within-Brand : (low high : ℤ) (name : List ℕ) (d : Datum) → within low high (D.Brand name d) ≡ within low high d
within-Brand low high name d =
    ap (within low high) (sym (D.rolls-Brand name d)) ∙ within-roll low high (Datum-F.Brand name d)
