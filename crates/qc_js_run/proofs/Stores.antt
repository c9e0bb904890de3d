-- The variables of a store as slots, of which the newest stands last.
use Rattle.std.proofs.Common.{◌≡◌, ◌≢◌, ◌∙◌, ◌+◌, ◌-◌, ◌<◌, ◌==◌, ◌++◌, ℕ, suc, Bool, true, false, cond, List, [], ◌∷◌}
use Rattle.std.proofs.Common.{Some, None, length, take, drop, set, get_or, refl, ap, sym, subst, arith}
use Rattle.std.proofs.Common.{length-drop}
use Rattle.std.proofs.lemmas.Bool.Decides.{nat_tests}
use Rattle.std.proofs.lemmas.List.{drop-drop, drop_more, set_split, take-append-drop, take_all, take_more}
use Rattle.std.proofs.lemmas.Option.{get_or_from_slice_get, slice_get_within}
use Rattle.std.specs.Prelude.{slice_get, Result, Ok, Err}
use Rattle.qc_data.specs.Outcome.{Outcome, Value, Halts, Stuck, Why, and_then, why_of}
use Rattle.qc_data.specs.declared.halt.Halt.{Halt}
use Rattle.qc_data.proofs.Outcomes.{bind_assoc}
use Rattle.qc_js_run.specs.declared.slots.Slot.{Slot}
use Rattle.qc_js.specs.Meaning.{Cell, Store, cell_of, changed, done, newest_done}
use Rattle.qc_js_run.specs.inner.Stores.{seen, behind, NoneOf, FirstAlone, Becomes, Leads}

-- ---- slots behind others

behind_append : (older newer : List (ℕ × Slot)) (st : Store)
    → behind (older ++ newer) st ≡ behind newer (behind older st)
behind_append [] newer st = refl
behind_append (c ∷ cs) newer st = behind_append cs newer ((c.0, seen c.1) ∷ st)

-- a slot that is put last is the newest
pub behind_push : (cs : List (ℕ × Slot)) (c : ℕ × Slot) (st : Store)
    → behind (cs ++ c ∷ []) st ≡ (c.0, seen c.1) ∷ behind cs st
behind_push cs c st = behind_append cs (c ∷ []) st

length_behind : (cs : List (ℕ × Slot)) (st : Store) → length (behind cs st) ≡ length cs + length st
length_behind [] st = omega arith
length_behind (c ∷ cs) st =
    let more : length (behind cs ((c.0, seen c.1) ∷ st)) ≡ length cs + suc (length st) =
    length_behind cs ((c.0, seen c.1) ∷ st) in
    more ∙ omega arith

-- there are as many variables as slots
pub behind_length : (cs : List (ℕ × Slot)) → length (behind cs []) ≡ length cs
behind_length cs = length_behind cs [] ∙ omega arith

drop_behind : (cs : List (ℕ × Slot)) (st : Store) → drop (length cs) (behind cs st) ≡ st
drop_behind [] st = refl
drop_behind (c ∷ cs) st =
    let all = behind cs ((c.0, seen c.1) ∷ st) in
    let count : suc (length cs) ≡ length cs + 1 = omega arith in
    ap (λ (n : ℕ). drop n all) count ∙ sym (drop-drop 1 (length cs) all)
    ∙ ap (drop 1) (drop_behind cs ((c.0, seen c.1) ∷ st))

-- the oldest slots are the oldest variables
pub behind_take : (n : ℕ) (cs : List (ℕ × Slot))
    → behind (take n cs) [] ≡ drop (length (behind cs []) - n) (behind cs [])
behind_take n cs =
    let older = behind (take n cs) [] in
    let whole : behind cs [] ≡ behind (drop n cs) older =
    ap (λ (all : List (ℕ × Slot)). behind all []) (sym (take-append-drop n cs))
    ∙ behind_append (take n cs) (drop n cs) [] in
    let count : length (behind cs []) - n ≡ length (drop n cs) =
    ap (λ (k : ℕ). k - n) (behind_length cs) ∙ sym (length-drop n cs) in
    sym (ap (λ (k : ℕ). drop k (behind cs [])) count ∙ ap (drop (length (drop n cs))) whole
    ∙ drop_behind (drop n cs) older)

-- ---- the newest slot

last_is : (cs : List (ℕ × Slot)) (c : ℕ × Slot) → slice_get cs (length cs - 1) ≡ Some c
    → cs ≡ take (length cs - 1) cs ++ c ∷ []
last_is cs c e =
    let within : length cs - 1 < length cs = slice_get_within cs (length cs - 1) c e in
    let got : get_or cs (length cs - 1) c ≡ c = get_or_from_slice_get cs (length cs - 1) c c e in
    sym (take_all (length cs - 1 + 1) cs (omega arith)) ∙ take_more cs (length cs - 1) c within
    ∙ ap (λ (d : ℕ × Slot). take (length cs - 1) cs ++ d ∷ []) got

-- a newest slot that is done
pub newest_is_done : (cs : List (ℕ × Slot)) (c : ℕ × Slot) → slice_get cs (length cs - 1) ≡ Some c
    → (c.0, done (seen c.1)) ∷ behind (take (length cs - 1) cs) [] ≡ newest_done (behind cs [])
newest_is_done cs c e =
    sym (ap (λ (all : List (ℕ × Slot)). newest_done (behind all [])) (last_is cs c e)
    ∙ ap newest_done (behind_push (take (length cs - 1) cs) c []))

-- ---- the slot of a variable

other_number : (x y : ℕ) → x ≢ y → (x == y) ≡ false
other_number x y h = grind (arith, nat_tests)

same_number : (x y : ℕ) → x ≡ y → (x == y) ≡ true
same_number x y h = grind (arith, nat_tests)

then_value : {A : Type 0} (o : Outcome A) → o ≡ and_then o (λ v. Value v)
then_value (Value v) = refl
then_value (Halts why) = refl

cell_behind : (x : ℕ) (cs : List (ℕ × Slot)) (st : Store) → NoneOf x cs → cell_of x (behind cs st) ≡ cell_of x st
cell_behind x [] st none = refl
cell_behind x (c ∷ cs) st none =
    cell_behind x cs ((c.0, seen c.1) ∷ st) none.1
    ∙ ap (λ (t : Bool). cond t (Some (seen c.1)) (cell_of x st)) (other_number c.0 x none.0)

module _ (h : Cell → Outcome Cell) (x : ℕ) where
  changed_behind : (cs : List (ℕ × Slot)) (st : Store) → NoneOf x cs
      → changed h x (behind cs st) ≡ and_then (changed h x st) (λ t. Value (behind cs t))
  changed_behind [] st none = then_value (changed h x st)
  changed_behind (c ∷ cs) st none =
      changed_behind cs ((c.0, seen c.1) ∷ st) none.1
      ∙ ap (λ (t : Bool). and_then (cond t (and_then (h (seen c.1)) (λ d. Value ((c.0, d) ∷ st)))
      (and_then (changed h x st) (λ u. Value ((c.0, seen c.1) ∷ u)))) (λ u. Value (behind cs u)))
      (other_number c.0 x none.0)
      ∙ bind_assoc (changed h x st) (λ u. Value ((c.0, seen c.1) ∷ u)) (λ u. Value (behind cs u))

  changed_split : (older newer : List (ℕ × Slot)) (c : ℕ × Slot) → c.0 ≡ x → NoneOf x newer
      → changed h x (behind (older ++ c ∷ newer) [])
      ≡ and_then (h (seen c.1)) (λ d. Value (behind newer ((c.0, d) ∷ behind older [])))
  changed_split older newer c is none =
      let st = behind older [] in
      ap (changed h x) (behind_append older (c ∷ newer) [])
      ∙ changed_behind newer ((c.0, seen c.1) ∷ st) none
      ∙ ap (λ (t : Bool). and_then (cond t (and_then (h (seen c.1)) (λ d. Value ((c.0, d) ∷ st)))
      (and_then (changed h x st) (λ u. Value ((c.0, seen c.1) ∷ u)))) (λ u. Value (behind newer u)))
      (same_number c.0 x is)
      ∙ bind_assoc (h (seen c.1)) (λ d. Value ((c.0, d) ∷ st)) (λ u. Value (behind newer u))

cell_split : (x : ℕ) (older newer : List (ℕ × Slot)) (c : ℕ × Slot) → c.0 ≡ x → NoneOf x newer
    → cell_of x (behind (older ++ c ∷ newer) []) ≡ Some (seen c.1)
cell_split x older newer c is none =
    ap (cell_of x) (behind_append older (c ∷ newer) [])
    ∙ cell_behind x newer ((c.0, seen c.1) ∷ behind older []) none
    ∙ ap (λ (t : Bool). cond t (Some (seen c.1)) (cell_of x (behind older []))) (same_number c.0 x is)

-- a place, and the slot that was read there
module _ (x : ℕ) (cs : List (ℕ × Slot)) (at : ℕ) (c : ℕ × Slot) (within : at < length cs)
    (read : c ≡ get_or cs at c) where
  rest_is : drop at cs ≡ c ∷ drop (suc at) cs
  rest_is =
      let next : at + 1 ≡ suc at = omega arith in
      drop_more cs at c within ∙ ap (λ (d : ℕ × Slot). d ∷ drop (at + 1) cs) (sym read)
      ∙ ap (λ (n : ℕ). c ∷ drop n cs) next

  whole_is : cs ≡ take at cs ++ c ∷ drop (suc at) cs
  whole_is = sym (take-append-drop at cs) ∙ ap (λ (ds : List (ℕ × Slot)). take at cs ++ ds) rest_is

  found_at : FirstAlone x (drop at cs) → FirstAlone x (c ∷ drop (suc at) cs)
  found_at first = subst (FirstAlone x) rest_is first

  -- the cell of the variable, where it is found
  pub cell_at : FirstAlone x (drop at cs) → cell_of x (behind cs []) ≡ Some (seen c.1)
  cell_at first =
      let found = found_at first in
      ap (λ (ds : List (ℕ × Slot)). cell_of x (behind ds [])) whole_is
      ∙ cell_split x (take at cs) (drop (suc at) cs) c found.0 found.1

  changed_found : (h : Cell → Outcome Cell) → FirstAlone x (drop at cs)
      → changed h x (behind cs [])
      ≡ and_then (h (seen c.1)) (λ d. Value (behind (drop (suc at) cs) ((c.0, d) ∷ behind (take at cs) [])))
  changed_found h first =
      let found = found_at first in
      ap (λ (ds : List (ℕ × Slot)). changed h x (behind ds [])) whole_is
      ∙ changed_split h x (take at cs) (drop (suc at) cs) c found.0 found.1

  -- a change that is made there
  pub changed_at : (h : Cell → Outcome Cell) (new : Slot) → FirstAlone x (drop at cs) → h (seen c.1) ≡ Value (seen new)
      → changed h x (behind cs []) ≡ Value (behind (set cs at (c.0, new)) [])
  changed_at h new first made =
      let written : behind (set cs at (c.0, new)) []
      ≡ behind (drop (suc at) cs) ((c.0, seen new) ∷ behind (take at cs) []) =
      ap (λ (ds : List (ℕ × Slot)). behind ds []) (set_split cs at (c.0, new) within)
      ∙ behind_append (take at cs) ((c.0, new) ∷ drop (suc at) cs) [] in
      changed_found h first
      ∙ ap (λ (o : Outcome Cell). and_then o (λ d.
      Value (behind (drop (suc at) cs) ((c.0, d) ∷ behind (take at cs) []))))
      made ∙ ap Value (sym written)

  -- one that is none
  pub changed_not : (h : Cell → Outcome Cell) (why : Why) → FirstAlone x (drop at cs) → h (seen c.1) ≡ Halts why
      → changed h x (behind cs []) ≡ Halts why
  changed_not h why first halts =
      changed_found h first
      ∙ ap (λ (o : Outcome Cell). and_then o (λ d.
      Value (behind (drop (suc at) cs) ((c.0, d) ∷ behind (take at cs) []))))
      halts

  -- either, as a call answers it
  pub led : (h : Cell → Outcome Cell) (new : Slot) (r : Result (Unit {0}) Halt) → FirstAlone x (drop at cs)
      → Becomes (h (seen c.1)) new r → Leads (changed h x (behind cs [])) (behind (set cs at (c.0, new)) []) r
  led h new (Ok u) first b = changed_at h new first b
  led h new (Err e) first b = λ m. changed_not h (why_of e) first (b m)

-- a variable that no slot is of
pub cell_none : (x : ℕ) (cs : List (ℕ × Slot)) → NoneOf x cs → cell_of x (behind cs []) ≡ None
cell_none x cs none = cell_behind x cs [] none

pub changed_none : (h : Cell → Outcome Cell) (x : ℕ) (cs : List (ℕ × Slot)) → NoneOf x cs
    → changed h x (behind cs []) ≡ Halts Stuck
changed_none h x cs none = changed_behind h x cs [] none
