-- Rows grouped by keys, and what is grouped by canons of marks.
use Rattle.std.proofs.Common.{◌≡◌, ◌≢◌, ℕ, zero, suc, ◌+◌, ◌<◌, Bool, true, false, cond, List, [], ◌∷◌, ◌++◌}
use Rattle.std.proofs.Common.{map, length, take, drop, get_or, refl, sym, ap, subst, ◌∙◌, arith}
use Rattle.std.specs.Prelude.{◌==◌, filter, zip, IsErrAnd, Result, Ok, Err}
use Rattle.std.specs.List.{AllByRecursion}
use Rattle.std.proofs.lemmas.List.{get_or-map, length-map, map-append, take-map}
use Rattle.qc_containers.specs.Pairs.{put}
use Rattle.qc_data.specs.Order.{canon}
use Rattle.qc_data.specs.Outcome.{Outcome, Why, Value, Halts, and_then, alone, each, why_of}
use Rattle.qc_data.specs.declared.data.Datum.{Datum}
use Rattle.qc_data.specs.declared.data.Datum.TheVariants.{Coll, Rec}
use Rattle.qc_data.specs.declared.data.Json.{Json}
use Rattle.qc_data.specs.declared.halt.Halt.{Halt}
use Rattle.qc_data.specs.declared.halt.Halt.TheVariants as halt
use Rattle.qc_data.proofs.Outcomes.{bind_assoc, gather_from}
use Rattle.qc_keys.specs.Counts.{count, equal, Tallies}
use Rattle.qc_keys.proofs.Counting.{Tallies-none}
use Rattle.qc_ops.specs.Bags.{firsts}
use Rattle.qc_ops.specs.Grouping.{group_of, rows_of}
use Rattle.qc_ops.specs.inner.Beside.{rows_beside}
use Rattle.qc_ops.specs.Operands.{as_rec, bag}
use Rattle.qc_ops.specs.Records.{projection}
use Rattle.qc_bags.specs.Copies.{copies, kept_by, same}
use Rattle.qc_bags.specs.declared.copies.Keep.TheVariants.{First}
use Rattle.qc_ops.proofs.Groups.{rows_of-canons}
use Rattle.qc_bags.proofs.Keeping.{kept_next, tallied_more, told}
use Rattle.qc_ops.proofs.Means.{length-each}
use Rattle.qc_rt.specs.Seen.{seen}
use Rattle.qc_seen.specs.Gathering as trees
use Rattle.qc_runtime.specs.inner.Giving.{GivesBag, GivesItems}
use Rattle.qc_seen.specs.Twins.{mark}
use Rattle.qc_seen.proofs.KeptItems.{copies-marks}
use Rattle.qc_seen.proofs.TwinLaws.{same-mark}

-- ---- rows gathered

-- what is seen in the rows beside a canon
seen_first : (b : Bool) (row : Json) (rows : List Json)
    → map seen (cond b (row ∷ rows) rows) ≡ cond b (seen row ∷ map seen rows) (map seen rows)
seen_first true row rows = refl
seen_first false row rows = refl

beside-seen : (c : Datum) (canons : List Datum) (rows : List Json)
    → map seen (trees.rows_beside c canons rows) ≡ rows_beside c canons (map seen rows)
beside-seen c [] rows = refl
beside-seen c (k ∷ ks) [] = refl
beside-seen c (k ∷ ks) (row ∷ rows) =
    seen_first (equal c k) row (trees.rows_beside c ks rows)
    ∙ ap (λ l. cond (equal c k) (seen row ∷ l) l) (beside-seen c ks rows)

-- as many keys as rows
pub beside_keys : (names : List (List ℕ)) (rows keys : List Json)
    → each (projection names) (map seen rows) ≡ Value (map seen keys) → length keys ≡ length rows
beside_keys names rows keys e =
    sym (length-map keys seen) ∙ length-each (projection names) (map seen rows) (map seen keys) e
    ∙ length-map rows seen

-- an error is given on, and one for want of memory is nothing that the outcome is
pub error_gives : (o : Outcome (List Datum)) (r : Result (List Json) Halt) (e : Halt) → IsErrAnd r (λ x. x ≡ e)
    → (e ≢ halt.Memory → o ≡ Halts (why_of e)) → GivesItems o r
error_gives o (Ok js) e is h = absurd is
error_gives o (Err x) e is h = subst (λ x. x ≢ halt.Memory → o ≡ Halts (why_of x)) (sym is) h

pub memory_gives : (o : Outcome (List Datum)) (r : Result (List Json) Halt) → IsErrAnd r (λ x. x ≡ halt.Memory)
    → GivesItems o r
memory_gives o r is = error_gives o r halt.Memory is (λ n. absurd (n refl))

-- the array of what is given
pub bag_gives : (o : Outcome (List Datum)) (r : Result (List Json) Halt) → GivesItems o r → GivesBag (bag o) r
bag_gives o (Ok js) h = ap bag h
bag_gives o (Err e) h = λ n. ap bag (h n)

-- what holds of what is seen in all trees holds of that at a place
pub lacks_at : (P : Datum → Type 0) (js : List Json) (i : ℕ) (j : Json) → AllByRecursion P (map seen js) → i < length js
    → j ≡ get_or js i j → P (seen j)
lacks_at P [] i j all lt at = absurd (omega (arith, lt))
lacks_at P (k ∷ js) zero j all lt at = subst (λ x. P (seen x)) (sym at) all.0
lacks_at P (k ∷ js) (suc i) j all lt at = lacks_at P js i j all.1 (omega (arith, lt)) at

-- ---- keys by their marks

rows_first : (b : Bool) (pair pair' : Datum × Datum) (pairs pairs' : List (Datum × Datum)) → pair.1 ≡ pair'.1
    → map (λ (p : Datum × Datum). p.1) pairs ≡ map (λ (p : Datum × Datum). p.1) pairs'
    → map (λ (p : Datum × Datum). p.1) (cond b (pair ∷ pairs) pairs)
    ≡ map (λ (p : Datum × Datum). p.1) (cond b (pair' ∷ pairs') pairs')
rows_first true pair pair' pairs pairs' e h = λ i. e i ∷ h i
rows_first false pair pair' pairs pairs' e h = h

abbrev rest_of : Bool → Datum → List Datum → List Datum → List (Datum × Datum)
rest_of b key ks rows = filter (λ (p : Datum × Datum). same (mark b key) p.0) (zip ks rows)

-- the rows of a key are those of its mark
rows-marks : (b : Bool) (key : Datum) (keys rows : List Datum)
    → rows_of (mark b key) (zip (map (mark b) keys) rows) ≡ rows_of key (zip keys rows)
rows-marks b key [] rows = refl
rows-marks b key (k ∷ ks) [] = refl
rows-marks b key (k ∷ ks) (row ∷ rows) =
    (λ i. map (λ (p : Datum × Datum). p.1)
    (cond (same-mark b key k i) ((mark b k, row) ∷ rest_of b key (map (mark b) ks) rows)
    (rest_of b key (map (mark b) ks) rows)))
    ∙ rows_first (same key k) (mark b k, row) (k, row) (rest_of b key (map (mark b) ks) rows)
    (filter (λ (p : Datum × Datum). same key p.0) (zip ks rows)) refl (rows-marks b key ks rows)

take-marks : (b : Bool) (i : ℕ) (xs : List Datum) → take i (map (mark b) xs) ≡ map (mark b) (take i xs)
take-marks b i xs = take-map (mark b) i xs

module _ (g : List ℕ) (js : List Json) (trees_in : List Json) (b : Bool) (marks canons : List Datum) (i : ℕ)
    (key : Json) (own : Datum) (are : marks ≡ map (mark b) (map seen js)) (mine : canons ≡ map canon marks)
    (lt : i < length js)
    (at : key ≡ get_or js i key) (is : own ≡ get_or canons i own) (all : List Json) where
  abbrev keys : List Datum
  keys = map seen js

  abbrev rows : List Datum
  rows = map seen trees_in

  abbrev F : Datum → Outcome (List Datum)
  F k = alone (group_of g (zip keys rows) k)

  abbrev Left : ℕ → List Datum
  Left n = kept_by (λ k x. k == 1) (take n keys) (drop n keys)

  lt_keys : i < length keys
  lt_keys = subst (λ n. i < n) (sym (length-map js seen)) lt

  at_keys : seen key ≡ get_or keys i (seen key)
  at_keys = ap seen at ∙ sym (get_or-map seen js i key (seen key) lt)

  lt_marks : i < length marks
  lt_marks = subst (λ n. i < n) (sym (ap length are ∙ length-map keys (mark b) ∙ length-map js seen)) lt

  -- the mark at the place
  own_mark : get_or marks i (mark b (seen key)) ≡ mark b (seen key)
  own_mark =
      ap (λ l. get_or l i (mark b (seen key))) are ∙ get_or-map (mark b) keys i (seen key) (mark b (seen key)) lt_keys
      ∙ ap (mark b) (sym at_keys)

  own_is : own ≡ canon (mark b (seen key))
  own_is =
      is ∙ ap (λ l. get_or l i own) mine ∙ get_or-map canon marks i (mark b (seen key)) own lt_marks ∙ ap canon own_mark

  -- a key is counted, and is the first where there is one of it
  module _ (seen_keys : List (Datum × ℕ)) (copied : Datum) (n : ℕ) (copied_is : copied ≡ own)
      (counted : n ≡ suc (count copied seen_keys)) (tallied : Tallies seen_keys (map canon (take i marks)))
      (so_far : each (group_of g (zip keys rows)) (firsts keys) ≡ gather_from F (map seen all) (Left i)) where
    sought : copied ≡ canon (mark b (seen key))
    sought = copied_is ∙ own_is

    -- as many copies of the mark came before as of the key
    as_before : (n == 1) ≡ (suc (copies (seen key) (take i keys)) == 1)
    as_before =
        told First (take i marks) [] seen_keys [] (mark b (seen key)) copied n 0 tallied Tallies-none sought counted
        refl
        ∙ ap (λ l. suc (copies (mark b (seen key)) l) == 1) (ap (take i) are ∙ take-marks b i keys)
        ∙ ap (λ k. suc k == 1) (copies-marks b (seen key) (take i keys))

    left_is : Left i ≡ cond (n == 1) (seen key ∷ Left (i + 1)) (Left (i + 1))
    left_is = kept_next (λ k x. k == 1) keys i (seen key) (n == 1) lt_keys at_keys as_before

    pub key_counted : (next : List (Datum × ℕ))
        → ((d : Datum) → count d next ≡ count d seen_keys + cond (equal d copied) 1 0)
        → Tallies next (map canon (take (i + 1) marks))
    key_counted next more =
        tallied_more marks i (mark b (seen key)) copied seen_keys next lt_marks (sym own_mark) sought tallied more

    pub no_group : (n == 1) ≡ false → (next : List Json) → next ≡ all
        → each (group_of g (zip keys rows)) (firsts keys) ≡ gather_from F (map seen next) (Left (i + 1))
    no_group e next is_next =
        so_far
        ∙ ap (gather_from F (map seen all)) (left_is ∙ ap (λ t. cond t (seen key ∷ Left (i + 1)) (Left (i + 1))) e)
        ∙ ap (λ l. gather_from F (map seen l) (Left (i + 1))) (sym is_next)

    module _ (first : (n == 1) ≡ true) (made : List (Datum × List Json)) (gathers : trees.Gathers made canons trees_in)
        (members : List Json) (members_is : members ≡ trees.gathered own made) where
      members_are : map seen members ≡ rows_of (seen key) (zip keys rows)
      members_are =
          ap (map seen) (members_is ∙ gathers own) ∙ beside-seen own canons trees_in
          ∙ (λ k. rows_beside (own_is k) ((mine ∙ ap (map canon) are) k) rows)
          ∙ sym (rows_of-canons (mark b (seen key)) (map (mark b) keys) rows) ∙ rows-marks b (seen key) keys rows

      next_group : each (group_of g (zip keys rows)) (firsts keys)
          ≡ and_then (and_then (as_rec (seen key)) (λ fields. Value (Rec (put g (Coll (map seen members)) fields))))
          (λ group. gather_from F (map seen all ++ group ∷ []) (Left (i + 1)))
      next_group =
          so_far
          ∙ ap (gather_from F (map seen all))
          (left_is ∙ ap (λ t. cond t (seen key ∷ Left (i + 1)) (Left (i + 1))) first)
          ∙ bind_assoc (group_of g (zip keys rows) (seen key)) (λ group. Value (group ∷ []))
          (λ ys. gather_from F (map seen all ++ ys) (Left (i + 1)))
          ∙ ap (λ l. and_then (and_then (as_rec (seen key)) (λ fields. Value (Rec (put g (Coll l) fields))))
          (λ group. gather_from F (map seen all ++ group ∷ []) (Left (i + 1))))
          (sym members_are)

      pub stops : (why : Why)
          → and_then (as_rec (seen key)) (λ fields. Value (Rec (put g (Coll (map seen members)) fields))) ≡ Halts why
          → each (group_of g (zip keys rows)) (firsts keys) ≡ Halts why
      stops why e =
          next_group
          ∙ ap (λ o. and_then o (λ group. gather_from F (map seen all ++ group ∷ []) (Left (i + 1)))) e

      pub goes_on : (group : Json)
          → and_then (as_rec (seen key)) (λ fields. Value (Rec (put g (Coll (map seen members)) fields)))
          ≡ Value (seen group)
          → (next : List Json) → next ≡ all ++ group ∷ []
          → each (group_of g (zip keys rows)) (firsts keys) ≡ gather_from F (map seen next) (Left (i + 1))
      goes_on group is_group next is_next =
          next_group
          ∙ ap (λ o. and_then o (λ group. gather_from F (map seen all ++ group ∷ []) (Left (i + 1)))) is_group
          ∙ ap (λ l. gather_from F l (Left (i + 1))) (sym (ap (map seen) is_next ∙ map-append seen all (group ∷ [])))
