-- Variables on JSON hold the encodings of what those over data hold.
use Rattle.std.proofs.Common.{◌≡◌, ◌∙◌, ℕ, ◌-◌, ◌==◌, zero, suc, true, false, cond, List, [], ◌∷◌, ◌++◌, map}
use Rattle.std.proofs.Common.{length, drop, Option, Some, None, refl, sym, ap}
use Rattle.std.proofs.lemmas.List.{drop-map, length-map, map-append}
use Rattle.std.specs.Prelude.{option_map}
use Rattle.std.specs.List.{AllByRecursion}
use Rattle.qc_data.specs.Encoding.{enc}
use Rattle.qc_data.specs.Outcome.{Outcome, Value, Stuck, and_then}
use Rattle.qc_data.specs.declared.data.Datum.{Datum}
use Rattle.qc_data.proofs.Encoded.{enc-Coll}
use Rattle.qc_data.specs.Facts.{all_true}
use Rattle.qc_rt.specs.Laws.{plain}
use Rattle.qc_rt.proofs.PlainLaws.{plain-Coll}
use Rattle.qc_ops.specs.Operands.{found}
use Rattle.qc_containers.proofs.Truth.{and_both}
use Rattle.qc_imp.specs.Meaning as imp
use Rattle.qc_js.specs.Meaning as json
use Rattle.qc_to_js.specs.inner.Cells.{cell_json, store_json, PlainCell, PlainStore}
use Rattle.qc_to_js.specs.inner.Kept.{AreEncoded, IsEncoded, Plain, Related}
use Rattle.qc_to_js.proofs.Outcomes.{related_then, related_value, related_halt}

-- ---- a variable that is read

cell_found : (x : ℕ) (st : imp.Store) → json.cell_of x (store_json st) ≡ option_map cell_json (imp.cell_of x st)
cell_found x [] = refl
cell_found x (c ∷ st) =
    elim (c.0 == x) as (λ b. cond b (Some (cell_json c.1)) (json.cell_of x (store_json st))
    ≡ option_map cell_json (cond b (Some c.1) (imp.cell_of x st)))
    [ true ↦ refl | false ↦ cell_found x st ]

value_found : (o : Option imp.Cell) → json.value_in (option_map cell_json o) ≡ option_map enc (imp.value_in o)
value_found None = refl
value_found (Some (imp.Settable o)) = refl
value_found (Some (imp.Constant d)) = refl
value_found (Some (imp.Collecting ds)) = refl

-- a value that was found, if there is one, is plain
abbrev PlainOption : Option Datum → Type 0
PlainOption None = Unit {0}
PlainOption (Some d) = Plain d

option_found : (o : Option Datum) → PlainOption o → IsEncoded (found o) (json.found (option_map enc o))
option_found None h = related_halt Plain enc Stuck
option_found (Some d) h = related_value Plain enc d h

abbrev PlainCells : Option imp.Cell → Type 0
PlainCells None = Unit {0}
PlainCells (Some c) = PlainCell c

cell_plain : (x : ℕ) (st : imp.Store) → PlainStore st → PlainCells (imp.cell_of x st)
cell_plain x [] h = tt
cell_plain x (c ∷ st) h =
    elim (c.0 == x) as (λ b. PlainCells (cond b (Some c.1) (imp.cell_of x st)))
    [ true ↦ h.0 | false ↦ cell_plain x st h.1 ]

value_plain : (o : Option imp.Cell) → PlainCells o → PlainOption (imp.value_in o)
value_plain None h = tt
value_plain (Some (imp.Settable None)) h = tt
value_plain (Some (imp.Settable (Some d))) h = h
value_plain (Some (imp.Constant d)) h = h
value_plain (Some (imp.Collecting ds)) h = tt

pub variable_read : (x : ℕ) (st : imp.Store) → PlainStore st
    → IsEncoded (found (imp.value_in (imp.cell_of x st))) (json.found (json.value_in (json.cell_of x (store_json st))))
variable_read x st h =
    let same : json.value_in (json.cell_of x (store_json st)) ≡ option_map enc (imp.value_in (imp.cell_of x st)) =
    ap json.value_in (cell_found x st) ∙ value_found (imp.cell_of x st) in
    rw same (option_found (imp.value_in (imp.cell_of x st)) (value_plain (imp.cell_of x st) (cell_plain x st h)))

-- ---- a variable that is changed

abbrev OfCells : Outcome imp.Cell → Outcome json.Cell → Type 0
OfCells = Related PlainCell cell_json

module _ (h : imp.Cell → Outcome imp.Cell) (g : json.Cell → Outcome json.Cell)
    (same : (c : imp.Cell) → PlainCell c → OfCells (h c) (g (cell_json c))) where
  pub variable_changed : (x : ℕ) (st : imp.Store) → PlainStore st
      → AreEncoded (imp.changed h x st) (json.changed g x (store_json st))
  variable_changed x [] p = related_halt PlainStore store_json Stuck
  variable_changed x (c ∷ st) p =
      let here : AreEncoded (and_then (h c.1) (λ d. Value ((c.0, d) ∷ st)))
      (and_then (g (cell_json c.1)) (λ d. Value ((c.0, d) ∷ store_json st))) =
      related_then PlainCell cell_json PlainStore store_json (h c.1) (g (cell_json c.1)) _ _ (same c.1 p.0)
      (λ d q. related_value PlainStore store_json ((c.0, d) ∷ st) (q, p.1)) in
      let later : AreEncoded (and_then (imp.changed h x st) (λ t. Value (c ∷ t)))
      (and_then (json.changed g x (store_json st)) (λ t. Value ((c.0, cell_json c.1) ∷ t))) =
      related_then PlainStore store_json PlainStore store_json (imp.changed h x st)
      (json.changed g x (store_json st)) _ _
      (variable_changed x st p.1) (λ t q. related_value PlainStore store_json (c ∷ t) (p.0, q)) in
      elim (c.0 == x) as (λ b. AreEncoded (cond b (and_then (h c.1) (λ d. Value ((c.0, d) ∷ st)))
      (and_then (imp.changed h x st) (λ t. Value (c ∷ t))))
      (cond b (and_then (g (cell_json c.1)) (λ d. Value ((c.0, d) ∷ store_json st)))
      (and_then (json.changed g x (store_json st)) (λ t. Value ((c.0, cell_json c.1) ∷ t)))))
      [ true ↦ here | false ↦ later ]

set_cell : (d : Datum) → Plain d → (c : imp.Cell) → PlainCell c
    → OfCells (imp.set_to d c) (json.set_to (enc d) (cell_json c))
set_cell d p (imp.Settable o) q = related_value PlainCell cell_json (imp.Settable (Some d)) p
set_cell d p (imp.Constant e) q = related_halt PlainCell cell_json Stuck
set_cell d p (imp.Collecting ds) q = related_halt PlainCell cell_json Stuck

all_more : (ds : List Datum) (d : Datum) → AllByRecursion Plain ds → Plain d → AllByRecursion Plain (ds ++ d ∷ [])
all_more [] d h p = (p, tt)
all_more (e ∷ ds) d h p = (h.0, all_more ds d h.1 p)

push_cell : (d : Datum) → Plain d → (c : imp.Cell) → PlainCell c
    → OfCells (imp.pushed_to d c) (json.pushed_to (enc d) (cell_json c))
push_cell d p (imp.Settable o) q = related_halt PlainCell cell_json Stuck
push_cell d p (imp.Constant e) q = related_halt PlainCell cell_json Stuck
push_cell d p (imp.Collecting ds) q =
    (all_more ds d q p, ap (λ js. Value (json.Collecting js)) (sym (map-append enc ds (d ∷ []))))

pub variable_set : (d : Datum) (x : ℕ) (st : imp.Store) → Plain d → PlainStore st
    → AreEncoded (imp.changed (imp.set_to d) x st) (json.changed (json.set_to (enc d)) x (store_json st))
variable_set d x st p h = variable_changed (imp.set_to d) (json.set_to (enc d)) (set_cell d p) x st h

pub variable_pushed : (d : Datum) (x : ℕ) (st : imp.Store) → Plain d → PlainStore st
    → AreEncoded (imp.changed (imp.pushed_to d) x st) (json.changed (json.pushed_to (enc d)) x (store_json st))
variable_pushed d x st p h = variable_changed (imp.pushed_to d) (json.pushed_to (enc d)) (push_cell d p) x st h

-- ---- the end of a block

drop_plain : (n : ℕ) (st : imp.Store) → PlainStore st → PlainStore (drop n st)
drop_plain zero st h = h
drop_plain (suc n) [] h = tt
drop_plain (suc n) (c ∷ st) h = drop_plain n st h.1

abbrev on_cell : ℕ × imp.Cell → ℕ × json.Cell
on_cell c = (c.0, cell_json c.1)

pub outer_same : (st t : imp.Store) → json.outer (store_json st) (store_json t) ≡ store_json (imp.outer st t)
outer_same st t =
    (λ i. drop (length-map t on_cell i - length-map st on_cell i) (store_json t))
    ∙ drop-map on_cell (length t - length st) t

pub outer_plain : (st t : imp.Store) → PlainStore t → PlainStore (imp.outer st t)
outer_plain st t h = drop_plain (length t - length st) t h

coll_plain : (ds : List Datum) → AllByRecursion Plain ds → all_true (map plain ds) ≡ true
coll_plain [] h = refl
coll_plain (d ∷ ds) h = and_both (plain d) (all_true (map plain ds)) h.0 (coll_plain ds h.1)

done_same : (c : imp.Cell) → json.done (cell_json c) ≡ cell_json (imp.done c)
done_same (imp.Settable o) = refl
done_same (imp.Constant d) = refl
done_same (imp.Collecting ds) = ap (λ j. json.Constant j) (sym (enc-Coll ds))

done_plain : (c : imp.Cell) → PlainCell c → PlainCell (imp.done c)
done_plain (imp.Settable o) h = h
done_plain (imp.Constant d) h = h
done_plain (imp.Collecting ds) h = plain-Coll ds ∙ coll_plain ds h

pub newest_done_same : (st : imp.Store) → json.newest_done (store_json st) ≡ store_json (imp.newest_done st)
newest_done_same [] = refl
newest_done_same (c ∷ st) = ap (λ d. (c.0, d) ∷ store_json st) (done_same c.1)

pub newest_done_plain : (st : imp.Store) → PlainStore st → PlainStore (imp.newest_done st)
newest_done_plain [] h = tt
newest_done_plain (c ∷ st) h = (done_plain c.1 h.0, h.1)
