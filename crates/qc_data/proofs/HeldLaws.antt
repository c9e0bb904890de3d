-- What is known of the parts of a datum that code can hold, and of a datum made of such parts.
use Rattle.std.proofs.Common.{◌≡◌, ℕ, ℤ, List, [], ◌∷◌, map, true, IsTrue, ◌↔◌, refl, sym, ◌∙◌}
use Rattle.std.specs.List.{AllByRecursion}
use Rattle.qc_data.specs.Facts.{Held, named, rising, lowest, highest, within64, all_true, all_named, all_values, rise}
use Rattle.qc_containers.specs.Name.{is_name}
use Rattle.qc_data.specs.Outcome.{bits64, bound, Value}
use Rattle.qc_containers.specs.Rising.{Rising, on_value}
use Rattle.qc_containers.specs.inner.RisingParts.{Rising-from, Rising-to}
use Rattle.qc_data.specs.declared.data.Datum.{Datum}
use Rattle.qc_data.specs.declared.data.Datum.TheVariants as D
use Rattle.qc_data.proofs.FactLaws as laws
use Rattle.qc_data.proofs.Risen.{rise-is, rise-test}
use Rattle.qc_containers.proofs.Truth.{and_parts, and_both}

-- an integer is in the bounds of 64 bits
pub Held-Int : (n : ℤ) → Held (D.Int n) → bound bits64 n ≡ Value n
Held-Int n h = let test = sym (laws.within-Int lowest highest n) ∙ h.integers in rw test refl

items_parts : (items : List Datum) → all_true (map named items) ≡ true → all_true (map rising items) ≡ true
    → all_true (map within64 items) ≡ true → AllByRecursion Held items
items_parts [] names records integers = tt
items_parts (d ∷ items) names records integers =
    let a = and_parts (named d) (all_true (map named items)) names in
    let b = and_parts (rising d) (all_true (map rising items)) records in
    let c = and_parts (within64 d) (all_true (map within64 items)) integers in
    (record { names = a.0; records = b.0; integers = c.0 }, items_parts items a.1 b.1 c.1)

items_whole : (items : List Datum) → AllByRecursion Held items
    → (all_true (map named items) ≡ true) × (all_true (map rising items) ≡ true)
    × (all_true (map within64 items) ≡ true)
items_whole [] all = (refl, refl, refl)
items_whole (d ∷ items) all =
    let rest = items_whole items all.1 in (
      and_both (named d) _ all.0.names rest.0,
      and_both (rising d) _ all.0.records rest.1,
      and_both (within64 d) _ all.0.integers rest.2,
    )

-- a collection is held where its members are
pub Held-Coll : (items : List Datum) → Held (D.Coll items) ↔ AllByRecursion Held items
Held-Coll items = (
  λ h. items_parts items (sym (laws.named-Coll items) ∙ h.names) (sym (laws.rising-Coll items) ∙ h.records)
      (sym (laws.within-Coll lowest highest items) ∙ h.integers),
  λ all. let w =
      items_whole items all in record {
        names = laws.named-Coll items ∙ w.0;
        records = laws.rising-Coll items
            ∙ w.1;
        integers = laws.within-Coll lowest highest items ∙ w.2;
      },
)

-- a field whose name is a name and whose value is held
abbrev pub HeldField : List ℕ × Datum → Type 0
HeldField p = IsTrue (is_name p.0) × Held p.1

fields_parts : (fields : List (List ℕ × Datum)) → all_named (map (on_value named) fields) ≡ true
    → all_values (map (on_value rising) fields) ≡ true → all_values (map (on_value within64) fields) ≡ true
    → AllByRecursion HeldField fields
fields_parts [] names records integers = tt
fields_parts (p ∷ fields) names records integers =
    let n = and_parts (is_name p.0) _ names in
    let a = and_parts (named p.1) (all_named (map (on_value named) fields)) n.1 in
    let b = and_parts (rising p.1) (all_values (map (on_value rising) fields)) records in
    let c = and_parts (within64 p.1) (all_values (map (on_value within64) fields)) integers in
    ((n.0, record { names = a.0; records = b.0; integers = c.0 }), fields_parts fields a.1 b.1 c.1)

fields_whole : (fields : List (List ℕ × Datum)) → AllByRecursion HeldField fields
    → (all_named (map (on_value named) fields) ≡ true) × (all_values (map (on_value rising) fields) ≡ true)
    × (all_values (map (on_value within64) fields) ≡ true)
fields_whole [] all = (refl, refl, refl)
fields_whole (p ∷ fields) all =
    let rest = fields_whole fields all.1 in (
      and_both (is_name p.0) _ all.0.0 (and_both (named p.1) _ all.0.1.names rest.0),
      and_both (rising p.1) _ all.0.1.records rest.1,
      and_both (within64 p.1) _ all.0.1.integers rest.2,
    )

-- a record is held where its names rise and its fields are held
pub Held-Rec : (fields : List (List ℕ × Datum))
    → Held (D.Rec fields) ↔ (Rising fields × AllByRecursion HeldField fields)
Held-Rec fields = (
  λ h. let r = and_parts (rise (map (on_value rising) fields)) _ (sym (laws.rising-Rec fields) ∙ h.records) in (
    Rising-from rising fields (rise-is (map (on_value rising) fields) r.0),
    fields_parts fields (sym (laws.named-Rec fields) ∙ h.names) r.1
        (sym (laws.within-Rec lowest highest fields) ∙ h.integers),
  ),
  λ h. let w = fields_whole fields h.1 in record {
    names = laws.named-Rec fields ∙ w.0;
    records =
        laws.rising-Rec fields ∙ and_both (rise (map (on_value rising) fields)) _
        (rise-test (map (on_value rising) fields) (Rising-to rising fields h.0)) w.1;
    integers = laws.within-Rec lowest highest fields ∙ w.2;
  },
)

-- a side is held where its content is
pub Held-Left : (d : Datum) → Held (D.Left d) ↔ Held d
Held-Left d = (
  λ h. record {
    names = sym (laws.named-Left d) ∙ h.names;
    records = sym (laws.rising-Left d)
        ∙ h.records;
    integers = sym (laws.within-Left lowest highest d) ∙ h.integers;
  },
  λ h. record {
    names = laws.named-Left d ∙ h.names;
    records = laws.rising-Left d
        ∙ h.records;
    integers = laws.within-Left lowest highest d ∙ h.integers;
  },
)

pub Held-Right : (d : Datum) → Held (D.Right d) ↔ Held d
Held-Right d = (
  λ h. record {
    names = sym (laws.named-Right d) ∙ h.names;
    records = sym (laws.rising-Right d)
        ∙ h.records;
    integers = sym (laws.within-Right lowest highest d) ∙ h.integers;
  },
  λ h. record {
    names = laws.named-Right d ∙ h.names;
    records = laws.rising-Right d
        ∙ h.records;
    integers = laws.within-Right lowest highest d ∙ h.integers;
  },
)

-- a class value is held where its name is a name and its content is held
pub Held-Brand : (name : List ℕ) (d : Datum) → Held (D.Brand name d) ↔ HeldField (name, d)
Held-Brand name d = (
  λ h. let n = and_parts (is_name name) (named d) (sym (laws.named-Brand name d) ∙ h.names) in (
    n.0,
    record {
      names = n.1;
      records = sym (laws.rising-Brand name d)
          ∙ h.records;
      integers = sym (laws.within-Brand lowest highest name d) ∙ h.integers;
    },
  ),
  λ h. record {
    names = laws.named-Brand name d
        ∙ and_both (is_name name) (named d) h.0 h.1.names;
    records = laws.rising-Brand name d
        ∙ h.1.records;
    integers = laws.within-Brand lowest highest name d ∙ h.1.integers;
  },
)
