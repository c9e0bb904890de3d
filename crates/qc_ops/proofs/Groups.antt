-- Rows grouped by keys, and what is grouped by canons.
use Rattle.std.proofs.Common.{◌≡◌, ℕ, suc, ◌+◌, ◌<◌, Bool, true, false, cond, List, [], ◌∷◌, ◌++◌, map, length, take}
use Rattle.std.proofs.Common.{drop, get_or, None, refl, sym, ap, subst, ◌∙◌, true≢false, arith, append_assoc}
use Rattle.std.proofs.Common.{append-nil, ◌≤◌, ◌≢◌}
use Rattle.std.proofs.lemmas.Bool.Decides.{nat_tests}
use Rattle.std.specs.Prelude.{◌==◌, filter, zip}
use Rattle.std.proofs.lemmas.List.{get_or-map}
use Rattle.std.specs.List.{AllByRecursion}
use Rattle.std.specs.Str.{bytes_eq}
use Rattle.std.proofs.lemmas.Slice.Eq.{bytes_eq-Decides}
use Rattle.qc_data.proofs.KindLaws.{out-Rec}
use Rattle.qc_data.proofs.Outcomes.{bind_assoc, gather_from}
use Rattle.qc_data.specs.Kinds.{as_coll}
use Rattle.qc_data.specs.Order.{canon}
use Rattle.qc_data.specs.Outcome.{Outcome, Value, Halts, and_then, alone, each}
use Rattle.qc_containers.specs.Pairs.{lookup, put}
use Rattle.qc_data.specs.declared.data.Datum.{Datum}
use Rattle.qc_data.specs.declared.data.Datum.TheVariants.{Coll, Rec}
use Rattle.qc_keys.specs.Counts.{count, equal, gathered, Tallies}
use Rattle.qc_keys.proofs.Counting.{Tallies-none}
use Rattle.qc_ops.specs.Bags.{firsts, kept_by}
use Rattle.qc_ops.specs.Grouping.{keyed, rows_of, group_of, grouped, Lacks}
use Rattle.qc_ops.specs.inner.Beside.{rows_beside, Gathers}
use Rattle.qc_ops.specs.Operands.{as_rec, bag, only_if}
use Rattle.qc_ops.specs.Records.{is_among, has_names, fields_at, projection}
use Rattle.qc_ops.specs.Sameness.{same}
use Rattle.qc_bags.specs.declared.copies.Keep.TheVariants.{First}
use Rattle.qc_bags.proofs.Keeping.{chosen, kept_next, tallied_more, told}
use Rattle.qc_ops.proofs.Means.{length-each}
use Rattle.qc_ops.proofs.Overlays.{from_place, past}

abbrev Pairs : Type 0
Pairs = List (List ℕ × Datum)

-- ---- rows by the canons of their keys

row_first : (b : Bool) (pair : Datum × Datum) (pairs : List (Datum × Datum))
    → map (λ p. p.1) (cond b (pair ∷ pairs) pairs) ≡ cond b (pair.1 ∷ map (λ p. p.1) pairs) (map (λ p. p.1) pairs)
row_first true pair pairs = refl
row_first false pair pairs = refl

pub rows_of-canons : (key : Datum) (keys rows : List Datum)
    → rows_of key (zip keys rows) ≡ rows_beside (canon key) (map canon keys) rows
rows_of-canons key [] rows = refl
rows_of-canons key (k ∷ ks) [] = refl
rows_of-canons key (k ∷ ks) (row ∷ rows) =
    row_first (same key k) (k, row) (filter (λ pair. same key pair.0) (zip ks rows))
    ∙ ap (λ l. cond (same key k) (row ∷ l) l) (rows_of-canons key ks rows)

-- the canon of a key
canon_at : (keys canons : List Datum) (i : ℕ) (key own : Datum) → canons ≡ map canon keys → i < length keys
    → key ≡ get_or keys i key → own ≡ get_or canons i own → own ≡ canon key
canon_at keys canons i key own mine lt at is =
    is ∙ ap (λ l. get_or l i own) mine ∙ get_or-map canon keys i key own lt ∙ ap canon (sym at)

-- ---- rows gathered

-- one row more
pub beside_more : (canons rows : List Datum) (old new : List (Datum × List Datum)) (i : ℕ) (k row copied : Datum)
    → i < length rows → length canons ≡ length rows → k ≡ get_or canons i k → row ≡ get_or rows i row → copied ≡ row
    → ((c : Datum) → rows_beside c canons rows ≡ gathered c old ++ rows_beside c (drop i canons) (drop i rows))
    → ((c : Datum) → gathered c new ≡ gathered c old ++ cond (equal c k) (copied ∷ []) [])
    → (c : Datum)
    → rows_beside c canons rows ≡ gathered c new ++ rows_beside c (drop (i + 1) canons) (drop (i + 1) rows)
beside_more canons rows old new i k row copied lt long at at' is so_far more c =
    let rest = rows_beside c (drop (i + 1) canons) (drop (i + 1) rows) in
    let mine : drop i canons ≡ k ∷ drop (i + 1) canons = from_place canons i k (omega (arith, lt, long)) at in
    let theirs : drop i rows ≡ row ∷ drop (i + 1) rows = from_place rows i row lt at' in
    so_far c ∙ ap (λ l. gathered c old ++ l)
    ((λ j. rows_beside c (mine j) (theirs j)) ∙ chosen (equal c k) row rest)
    ∙ sym (append_assoc (gathered c old) (cond (equal c k) (row ∷ []) []) rest)
    ∙ ap (λ x. (gathered c old ++ cond (equal c k) (x ∷ []) []) ++ rest) (sym is) ∙ ap (λ l. l ++ rest) (sym (more c))

-- and all rows
pub beside_all : (canons rows : List Datum) (made : List (Datum × List Datum)) (i : ℕ) → length rows ≤ i
    → length canons ≡ length rows
    → ((c : Datum) → rows_beside c canons rows ≡ gathered c made ++ rows_beside c (drop i canons) (drop i rows))
    → Gathers made canons rows
beside_all canons rows made i end long so_far c =
    let none : drop i canons ≡ [] = past canons i (omega (arith, end, long)) in
    sym (so_far c ∙ ap (λ l. gathered c made ++ rows_beside c l (drop i rows)) none ∙ append-nil (gathered c made))

-- ---- one group more

pub is_one : (n : ℕ) → n ≡ 1 → (n == 1) ≡ true
is_one n e = rw e refl

pub not_one : (n : ℕ) → n ≢ 1 → (n == 1) ≡ false
not_one n e = grind (arith, nat_tests)

module _ (g : List ℕ) (keys rows canons : List Datum) (i : ℕ) (key own : Datum) (mine : canons ≡ map canon keys)
    (lt : i < length keys) (at : key ≡ get_or keys i key) (is : own ≡ get_or canons i own) (all : List Datum) where
  abbrev F : Datum → Outcome (List Datum)
  F k = alone (group_of g (zip keys rows) k)

  abbrev Left : ℕ → List Datum
  Left n = kept_by (λ k x. k == 1) (take n keys) (drop n keys)

  -- a key is counted, and is the first where there is one of it
  module _ (seen : List (Datum × ℕ)) (copied : Datum) (n : ℕ) (copied_is : copied ≡ own)
      (counted : n ≡ suc (count copied seen)) (tallied : Tallies seen (map canon (take i keys)))
      (so_far : each (group_of g (zip keys rows)) (firsts keys) ≡ gather_from F all (Left i)) where
    sought : copied ≡ canon key
    sought = copied_is ∙ canon_at keys canons i key own mine lt at is

    left_is : Left i ≡ cond (n == 1) (key ∷ Left (i + 1)) (Left (i + 1))
    left_is =
        kept_next (λ k x. k == 1) keys i key (n == 1) lt at
        (told First (take i keys) [] seen [] key copied n 0 tallied Tallies-none sought counted refl)

    pub key_counted : (next : List (Datum × ℕ))
        → ((d : Datum) → count d next ≡ count d seen + cond (equal d copied) 1 0)
        → Tallies next (map canon (take (i + 1) keys))
    key_counted next more = tallied_more keys i key copied seen next lt at sought tallied more

    pub no_group : (n == 1) ≡ false → (next : List Datum) → next ≡ all
        → each (group_of g (zip keys rows)) (firsts keys) ≡ gather_from F next (Left (i + 1))
    no_group e next is_next =
        so_far ∙ ap (gather_from F all) (left_is ∙ ap (λ t. cond t (key ∷ Left (i + 1)) (Left (i + 1))) e)
        ∙ ap (λ l. gather_from F l (Left (i + 1))) (sym is_next)

    module _ (first : (n == 1) ≡ true) (made : List (Datum × List Datum)) (gathers : Gathers made canons rows)
        (members : List Datum) (members_is : members ≡ gathered own made) where
      members_are : members ≡ rows_of key (zip keys rows)
      members_are =
          members_is ∙ gathers own
          ∙ rw (canon_at keys canons i key own mine lt at is, mine) (sym (rows_of-canons key keys rows))

      pub next_group : each (group_of g (zip keys rows)) (firsts keys)
          ≡ and_then (and_then (as_rec key) (λ fields. Value (Rec (put g (Coll members) fields))))
          (λ group. gather_from F (all ++ group ∷ []) (Left (i + 1)))
      next_group =
          so_far ∙ ap (gather_from F all) (left_is ∙ ap (λ t. cond t (key ∷ Left (i + 1)) (Left (i + 1))) first)
          ∙ bind_assoc (group_of g (zip keys rows) key) (λ group. Value (group ∷ []))
          (λ ys. gather_from F (all ++ ys) (Left (i + 1)))
          ∙ ap (λ l. and_then (and_then (as_rec key) (λ fields. Value (Rec (put g (Coll l) fields))))
          (λ group. gather_from F (all ++ group ∷ []) (Left (i + 1))))
          (sym members_are)

      pub goes_on : (group : Datum)
          → and_then (as_rec key) (λ fields. Value (Rec (put g (Coll members) fields))) ≡ Value group
          → (next : List Datum) → next ≡ all ++ group ∷ []
          → each (group_of g (zip keys rows)) (firsts keys) ≡ gather_from F next (Left (i + 1))
      goes_on group is_group next is_next =
          next_group ∙ ap (λ o. and_then o (λ group. gather_from F (all ++ group ∷ []) (Left (i + 1)))) is_group
          ∙ ap (λ l. gather_from F l (Left (i + 1))) (sym is_next)

-- ---- keys and rows side by side

pairs_first : (o : Outcome Datum) (rest : Outcome (List Datum)) (row : Datum) (rows : List Datum)
    → and_then (alone (and_then o (λ key. Value (key, row))))
    (λ ys. and_then (and_then rest (λ keys. Value (zip keys rows))) (λ zs. Value (ys ++ zs)))
    ≡ and_then (and_then (alone o) (λ ys. and_then rest (λ zs. Value (ys ++ zs))))
    (λ keys. Value (zip keys (row ∷ rows)))
pairs_first (Value key) (Value keys) row rows = refl
pairs_first (Value key) (Halts why) row rows = refl
pairs_first (Halts why) rest row rows = refl

each-keyed : (names : List (List ℕ)) (rows : List Datum)
    → each (keyed names) rows ≡ and_then (each (projection names) rows) (λ keys. Value (zip keys rows))
each-keyed names [] = refl
each-keyed names (row ∷ rows) =
    (λ i. and_then (alone (keyed names row)) (λ ys. and_then (each-keyed names rows i) (λ zs. Value (ys ++ zs))))
    ∙ pairs_first (projection names row) (each (projection names) rows) row rows

keys_of_pairs : (keys rows : List Datum) → length keys ≡ length rows → map (λ pair. pair.0) (zip keys rows) ≡ keys
keys_of_pairs [] rows e = refl
keys_of_pairs (k ∷ ks) [] e = absurd (omega (arith, e))
keys_of_pairs (k ∷ ks) (row ∷ rows) e = ap (λ l. k ∷ l) (keys_of_pairs ks rows (omega (arith, e)))

abbrev groups_of : List ℕ → List Datum → List Datum → Outcome Datum
groups_of g rows keys = bag (each (group_of g (zip keys rows)) (firsts keys))

grouped_at : (g : List ℕ) (rows : List Datum) (o : Outcome (List Datum))
    → ((keys : List Datum) → o ≡ Value keys → length keys ≡ length rows)
    → and_then (and_then o (λ keys. Value (zip keys rows)))
    (λ pairs. bag (each (group_of g pairs) (firsts (map (λ pair. pair.0) pairs)))) ≡ and_then o (groups_of g rows)
grouped_at g rows (Value keys) h =
    ap (λ l. bag (each (group_of g (zip keys rows)) (firsts l))) (keys_of_pairs keys rows (h keys refl))
grouped_at g rows (Halts why) h = refl

-- the groups by the rows' projections, where g is none of the names
pub grouped_by : (g : List ℕ) (names : List (List ℕ)) (a : Datum) (items rows : List Datum) → as_coll a ≡ Value items
    → rows ≡ items → is_among g names ≡ false
    → grouped g names a ≡ and_then (each (projection names) rows)
    (λ keys. bag (each (group_of g (zip keys rows)) (firsts keys)))
grouped_by g names a items rows coll there free =
    rw (coll, ← there, free) (ap (λ o. and_then o
    (λ pairs. bag (each (group_of g pairs) (firsts (map (λ pair. pair.0) pairs))))) (each-keyed names rows)
    ∙ grouped_at g rows (each (projection names) rows) (λ keys e. length-each (projection names) rows keys e))

-- and where the rows have keys
pub grouped_keys : (g : List ℕ) (names : List (List ℕ)) (a : Datum) (items rows keys ks : List Datum)
    → as_coll a ≡ Value items → rows ≡ items → is_among g names ≡ false → each (projection names) rows ≡ Value keys
    → ks ≡ keys
    → grouped g names a ≡ bag (each (group_of g (zip ks rows)) (firsts ks))
grouped_keys g names a items rows keys ks coll there free made same =
    grouped_by g names a items rows coll there free ∙ rw (made, ← same) refl

-- ---- no key has a field of another name than theirs

among_at : (b : Bool) (g n : List ℕ) (names : List (List ℕ)) → bytes_eq n g ≡ b → is_among g names ≡ false
    → is_among n names ≡ true → b ≡ false
among_at true g n names e free there =
    let one : n ≡ g = (bytes_eq-Decides n g).0 e in
    absurd (true≢false (sym there ∙ ap (λ m. is_among m names) one ∙ free))
among_at false g n names e free there = refl

among_not : (g n : List ℕ) (names : List (List ℕ)) → is_among g names ≡ false → is_among n names ≡ true
    → bytes_eq n g ≡ false
among_not g n names free there = among_at (bytes_eq n g) g n names refl free there

field_at : (b : Bool) (g : List ℕ) (names : List (List ℕ)) → is_among g names ≡ false
    → (p : List ℕ × Datum) (ps : Pairs) → is_among p.0 names ≡ b → lookup g (fields_at names ps) ≡ None
    → lookup g (cond b (p ∷ fields_at names ps) (fields_at names ps)) ≡ None
field_at true g names free p ps e h = rw (among_not g p.0 names free e) h
field_at false g names free p ps e h = h

lookup-fields_at : (g : List ℕ) (names : List (List ℕ)) → is_among g names ≡ false → (fields : Pairs)
    → lookup g (fields_at names fields) ≡ None
lookup-fields_at g names free [] = refl
lookup-fields_at g names free (p ∷ ps) =
    field_at (is_among p.0 names) g names free p ps refl (lookup-fields_at g names free ps)

inside : {A : Type 0} (x y : A) → Value x ≡ Value y → x ≡ y
inside x y e = cc

as_rec-Rec : (fields : Pairs) → as_rec (Rec fields) ≡ Value fields
as_rec-Rec fields = rw (out-Rec fields) refl

Lacks-Rec : (g : List ℕ) (fields : Pairs) → lookup g fields ≡ None → Lacks g (Rec fields)
Lacks-Rec g fields h found e =
    let one : fields ≡ found = inside fields found (sym (as_rec-Rec fields) ∙ e) in subst (λ l. lookup g l ≡ None) one h

lacks_part : (b : Bool) (g : List ℕ) (part : Pairs) (key : Datum) → lookup g part ≡ None
    → and_then (only_if b (Value part)) (λ fields. Value (Rec fields)) ≡ Value key → Lacks g key
lacks_part true g part key h e = subst (Lacks g) (inside (Rec part) key e) (Lacks-Rec g part h)
lacks_part false g part key h e = absurd (cc)

lacks_one : (o : Outcome Pairs) (g : List ℕ) (names : List (List ℕ)) (key : Datum) → is_among g names ≡ false
    → and_then (and_then o (λ fields. only_if (has_names names fields) (Value (fields_at names fields))))
    (λ fields. Value (Rec fields)) ≡ Value key → Lacks g key
lacks_one (Value fields) g names key free e =
    lacks_part (has_names names fields) g (fields_at names fields) key (lookup-fields_at g names free fields) e
lacks_one (Halts why) g names key free e = absurd (cc)

lacks_next : (P : Datum → Type 0) (o : Outcome Datum) (rest : Outcome (List Datum)) (keys : List Datum)
    → ((key : Datum) → o ≡ Value key → P key) → ((ks : List Datum) → rest ≡ Value ks → AllByRecursion P ks)
    → and_then (alone o) (λ ys. and_then rest (λ zs. Value (ys ++ zs))) ≡ Value keys → AllByRecursion P keys
lacks_next P (Value key) (Value ks) keys h k e =
    let one : key ∷ ks ≡ keys = cc in subst (AllByRecursion P) one (h key refl, k ks refl)
lacks_next P (Value key) (Halts why) keys h k e = absurd (cc)
lacks_next P (Halts why) rest keys h k e = absurd (cc)

pub lacks_all : (g : List ℕ) (names : List (List ℕ)) → is_among g names ≡ false → (rows keys : List Datum)
    → each (projection names) rows ≡ Value keys → AllByRecursion (Lacks g) keys
lacks_all g names free [] keys e = let one : [] ≡ keys = cc in subst (AllByRecursion (Lacks g)) one tt
lacks_all g names free (row ∷ rows) keys e =
    lacks_next (Lacks g) (projection names row) (each (projection names) rows) keys
    (λ key p. lacks_one (as_rec row) g names key free p) (λ ks p. lacks_all g names free rows ks p) e
