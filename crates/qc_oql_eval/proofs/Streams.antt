-- The rows that a condition keeps, where members of the last source are tested before they become rows.
use Rattle.std.proofs.Common.{◌≡◌, ◌≤◌, ◌+◌, ◌-◌, ℕ, Bool, true, false, cond, List, [], ◌∷◌, ◌++◌, drop, take, length}
use Rattle.std.proofs.Common.{map, refl, sym, ap, ◌∙◌, arith, get_or}
use Rattle.std.proofs.lemmas.List.{take-append-drop, take_all, drop_more, drop_all}
use Rattle.std.specs.Borrow.{Bor}
use Rattle.std.specs.Prelude.{Option, Some, None, Result, Err}
use Rattle.qc_data.specs.Kinds.{as_coll}
use Rattle.qc_data.specs.Outcome.{Mode, Outcome, Why, Value, Halts, Gives, and_then, gather, why_of}
use Rattle.qc_data.proofs.Outcomes.{bind_assoc}
use Rattle.qc_data.specs.declared.halt.Halt.{Halt}
use Rattle.qc_data.specs.declared.data.Datum.{Datum}
use Rattle.qc_ops.specs.inner.Columns.{behind}
use Rattle.qc_types.specs.Schemas.{WorldOf}
use Rattle.qc_oql_tree.specs.declared.tree.Named.{Named}
use Rattle.qc_oql_tree.specs.declared.tree.Oql.TheViews.{out-Named, out-Select}
use Rattle.qc_oql_tree.specs.declared.tree.Select.{Select}
use Rattle.qc_oql_tree.specs.Bindings.{Bindings, Meaning}
use Rattle.qc_oql_tree.specs.FormMeanings.{NamedMeaning, truth}
use Rattle.qc_oql_tree.specs.Meaning.{oql, named}
use Rattle.qc_oql_tree.specs.SelectMeaning.{source_items, rows_with, extended, rows_from, rows_of, kept_row, filtered}
use Rattle.qc_oql_tree.proofs.MeaningForms.{named_is}
use Rattle.qc_oql_eval.specs.inner.Kept.{kept_member, kept_members}
use Rattle.qc_oql_eval.specs.inner.Selected.{condition, kept_rows}
use Rattle.qc_oql_eval.proofs.Gathering.{joins, gather_append, gather_made, map_append, then_same, then_value}
use Rattle.qc_oql_eval.proofs.Gathering.{both_from, both_begun, both_more, both_stop, both_stop_first}

-- ---- the first and the last member of a list

first_apart : {A : Type 0} (xs : List A) (x : A) → 1 ≤ length xs → x ≡ get_or xs 0 x
    → xs ≡ x ∷ take (length xs - 1) (drop 1 xs)
first_apart [] x h e = absurd (omega (arith, h))
first_apart (y ∷ ys) x h e =
    ap (λ z. z ∷ ys) (sym e) ∙ ap (λ zs. x ∷ zs) (sym (take_all (length (y ∷ ys) - 1) ys (omega arith)))

last_apart : {A : Type 0} (xs : List A) (i : ℕ) (x : A) → length xs ≡ i + 1 → x ≡ get_or xs i x
    → xs ≡ take i xs ++ x ∷ []
last_apart xs i x h e =
    sym (take-append-drop i xs)
    ∙ ap (λ ys. take i xs ++ ys) (drop_more xs i x (omega (arith, h))
    ∙ (ap (λ y. y ∷ drop (i + 1) xs) (sym e) ∙ ap (λ ys. x ∷ ys) (drop_all (i + 1) xs (omega (arith, h)))))

-- ---- conditions

filtered_joined : (f : Option Meaning) (s : Bindings) (xs ys : List Bindings)
    → filtered f s (xs ++ ys) ≡ joins (filtered f s xs) (filtered f s ys)
filtered_joined None s xs ys = refl
filtered_joined (Some test) s xs ys = gather_append (kept_row test s) xs ys

by_truth : {A B : Type 0} (h : A → B) (x : A) (o : Outcome Bool)
    → and_then (and_then o (λ b. Value (cond b (x ∷ []) []))) (λ ys. Value (map h ys))
    ≡ and_then o (λ b. Value (cond b (h x ∷ []) []))
by_truth h x (Halts w) = refl
by_truth h x (Value true) = refl
by_truth h x (Value false) = refl

kept_member_row : (test : Meaning) (name : List ℕ) (s row : Bindings) (x : Datum)
    → and_then (kept_member test name (row ++ s) x) (λ ys. Value (map (λ y. (name, y) ∷ row) ys))
    ≡ kept_row test s ((name, x) ∷ row)
unfolding kept_row
kept_member_row test name s row x = by_truth (λ y. (name, y) ∷ row) x (truth test ((name, x) ∷ (row ++ s)))

kept_members_rows : (f : Option Meaning) (name : List ℕ) (s row : Bindings) (xs : List Datum)
    → and_then (kept_members f name (row ++ s) xs) (λ kept. Value (rows_with name row kept))
    ≡ filtered f s (rows_with name row xs)
unfolding rows_with
kept_members_rows None name s row xs = refl
kept_members_rows (Some test) name s row xs =
    gather_made (λ y. (name, y) ∷ row) (λ y. (name, y) ∷ row) (kept_member test name (row ++ s)) (kept_row test s) xs
    (λ x. kept_member_row test name s row x)

-- ---- the last source

-- what is kept of the rows that the source makes of these, behind what was kept before
abbrev pub kept_from : Option Meaning → NamedMeaning → Bindings → List Bindings → List Bindings
    → Outcome (List Bindings)
kept_from f source s done rows = both_from (extended source s) (filtered f s) done rows

rows_last : (sources : List NamedMeaning) (last : NamedMeaning) (s : Bindings) (rows : List Bindings)
    → rows_from (sources ++ last ∷ []) s rows ≡ and_then (rows_from sources s rows) (gather (extended last s))
rows_last [] last s rows = then_value (gather (extended last s) rows)
rows_last (source ∷ sources) last s rows =
    then_same (gather (extended source s) rows) (rows_from (sources ++ last ∷ []) s)
    (λ rs. and_then (rows_from sources s rs) (gather (extended last s))) (λ rs. rows_last sources last s rs)
    ∙ sym (bind_assoc (gather (extended source s) rows) (rows_from sources s) (gather (extended last s)))

module _ (m : Mode) (w : WorldOf) (s : Bindings) where
  kept_begun : (x : Select) (sources : List Named) (last : Named) → (out-Select x).sources ≡ sources ++ last ∷ []
      → kept_rows m w x s
      ≡ and_then (rows_of (map (named m w) sources) s) (kept_from (condition m w x) (named m w last) s [])
  kept_begun x sources last e =
      let f : Option Meaning = condition m w x in
      let by_all : rows_of (map (named m w) (out-Select x).sources) s
      ≡ rows_of (map (named m w) sources ++ named m w last ∷ []) s =
      ap (λ ss. rows_of ss s) (ap (map (named m w)) e ∙ map_append (named m w) sources (last ∷ [])) in
      let by_last : rows_of (map (named m w) (out-Select x).sources) s
      ≡ and_then (rows_of (map (named m w) sources) s) (gather (extended (named m w last) s)) =
      by_all ∙ rows_last (map (named m w) sources) (named m w last) s ([] ∷ []) in
      ap (λ o. and_then o (filtered f s)) by_last
      ∙ (bind_assoc (rows_of (map (named m w) sources) s) (gather (extended (named m w last) s)) (filtered f s)
      ∙ then_same (rows_of (map (named m w) sources) s)
      (λ rows. and_then (gather (extended (named m w last) s) rows) (filtered f s)) (kept_from f (named m w last) s [])
      (λ rows. both_begun (extended (named m w last) s) (filtered f s) rows))

  module _ (f : Option Meaning) (source : Named) (done : List Bindings) (row : Bindings) (later : List Bindings) where
    no_source : (why : Why) → oql m w (out-Named source).of (row ++ s) ≡ Halts why
        → kept_from f (named m w source) s done (row ∷ later) ≡ Halts why
    unfolding source_items
    no_source why e =
        let stops : extended (named m w source) s row ≡ Halts why = rw (named_is m w source, e) refl in
        both_stop_first (extended (named m w source) s) (filtered f s) done row later why stops

    no_items : (d : Datum) (why : Why) → oql m w (out-Named source).of (row ++ s) ≡ Value d → as_coll d ≡ Halts why
        → kept_from f (named m w source) s done (row ∷ later) ≡ Halts why
    unfolding source_items
    no_items d why e a =
        let stops : extended (named m w source) s row ≡ Halts why = rw (named_is m w source, e, a) refl in
        both_stop_first (extended (named m w source) s) (filtered f s) done row later why stops

    module _ (d : Datum) (xs : List Datum) (e : oql m w (out-Named source).of (row ++ s) ≡ Value d)
        (a : as_coll d ≡ Value xs) where
      made : extended (named m w source) s row ≡ Value (rows_with (out-Named source).name row xs)
      unfolding source_items
      made = rw (named_is m w source, e, a) refl

      kept_more : (kept : List Datum) → kept_members f (out-Named source).name (row ++ s) xs ≡ Value kept
          → kept_from f (named m w source) s done (row ∷ later)
          ≡ kept_from f (named m w source) s (done ++ rows_with (out-Named source).name row kept) later
      kept_more kept k =
          let by_rows : filtered f s (rows_with (out-Named source).name row xs)
          ≡ Value (rows_with (out-Named source).name row kept) =
          sym (kept_members_rows f (out-Named source).name s row xs)
          ∙ ap (λ o. and_then o (λ ks. Value (rows_with (out-Named source).name row ks))) k in
          both_more (extended (named m w source) s) (filtered f s) (filtered_joined f s) done
          (rows_with (out-Named source).name row kept) row later
          (rows_with (out-Named source).name row xs) made by_rows

      kept_stop : (why : Why) → kept_members f (out-Named source).name (row ++ s) xs ≡ Halts why
          → kept_from f (named m w source) s done (row ∷ later)
          ≡ and_then (gather (extended (named m w source) s) later) (λ rs. Halts why)
      kept_stop why k =
          let by_rows : filtered f s (rows_with (out-Named source).name row xs) ≡ Halts why =
          sym (kept_members_rows f (out-Named source).name s row xs)
          ∙ ap (λ o. and_then o (λ ks. Value (rows_with (out-Named source).name row ks))) k in
          both_stop (extended (named m w source) s) (filtered f s) (filtered_joined f s) done row later
          (rows_with (out-Named source).name row xs) why made by_rows

-- ---- the code's steps

module _ (m : Mode) (w : WorldOf) (s : Bindings) (x : Select) (last : Named) where
  -- what comes of the last source on these rows, behind what was kept before
  abbrev pub kept_on : List Bindings → List Bindings → Outcome (List Bindings)
  kept_on done rest = kept_from (condition m w x) (named m w last) s done rest

  -- before the last source
  module _ (all : List Named) (q : all ≡ (out-Select x).sources) (h : 1 ≤ length all)
      (l : last ≡ get_or all (length all - 1) last) where
    begun : kept_rows m w x s ≡ and_then (rows_of (map (named m w) (take (length all - 1) all)) s) (kept_on [])
    begun =
        kept_begun m w s x (take (length all - 1) all) last
        (sym q ∙ last_apart all (length all - 1) last (omega (arith, h)) l)

    pub earlier_halts : (e : Halt)
        → Gives {A = List Bindings} (rows_of (map (named m w) (take (length all - 1) all)) s) (Err e)
        → Gives {A = List Bindings} (kept_rows m w x s) (Err e)
    earlier_halts e g = λ n. begun ∙ ap (λ o. and_then o (kept_on [])) (g n)

    pub kept_first : (rows done rest : List Bindings)
        → rows_of (map (named m w) (take (length all - 1) all)) s ≡ Value rows → rest ≡ rows → done ≡ []
        → kept_rows m w x s ≡ kept_on done rest
    kept_first rows done rest g r d =
        begun ∙ (ap (λ o. and_then o (kept_on [])) g ∙ (ap (kept_on []) (sym r) ∙ ap (λ ds. kept_on ds rest) (sym d)))

  -- the first row of those that are left, read through two references
  pub next_row : (done rest : List Bindings) (item row : Bindings) → 1 ≤ length rest → item ≡ get_or rest 0 item
      → row ≡ item → kept_rows m w x s ≡ kept_on done rest
      → kept_rows m w x s ≡ kept_on done (row ∷ take (length rest - 1) (drop 1 rest))
  next_row done rest item row h a r i =
      i ∙ ap (kept_on done) (first_apart rest item h a ∙ ap (λ z. z ∷ take (length rest - 1) (drop 1 rest)) (sym r))

  module _ (done : List Bindings) (row : Bindings) (later : List Bindings)
      (i : kept_rows m w x s ≡ kept_on done (row ∷ later)) where
    pub source_halts : (e : Halt) → Gives {A = Datum} (oql m w (out-Named last).of (row ++ s)) (Err e)
        → Gives {A = List Bindings} (kept_rows m w x s) (Err e)
    source_halts e g = λ n. i ∙ no_source m w s (condition m w x) last done row later (why_of e) (g n)

    pub items_halt : (d : Datum) (e : Halt) → oql m w (out-Named last).of (row ++ s) ≡ Value d
        → Gives {A = List Datum} (as_coll d) (Err e) → Gives {A = List Bindings} (kept_rows m w x s) (Err e)
    items_halt d e v g = λ n. i ∙ no_items m w s (condition m w x) last done row later d (why_of e) v (g n)

    module _ (d : Datum) (xs : List Datum) (v : oql m w (out-Named last).of (row ++ s) ≡ Value d)
        (a : as_coll d ≡ Value xs) where
      -- a later row's source halts, whatever the condition does
      stops : (why : Why) (o : Outcome (List Datum))
          → kept_members (condition m w x) (out-Named last).name (row ++ s) xs ≡ o
          → gather (extended (named m w last) s) later ≡ Halts why → kept_rows m w x s ≡ Halts why
      stops why (Value kept) k g =
          i ∙ (kept_more m w s (condition m w x) last done row later d xs v a kept k
          ∙ ap (λ o. and_then o (λ ys. and_then (filtered (condition m w x) s ys)
          (λ zs. Value ((done ++ rows_with (out-Named last).name row kept) ++ zs)))) g)
      stops why (Halts y) k g =
          i ∙ (kept_stop m w s (condition m w x) last done row later d xs v a y k
          ∙ ap (λ o. and_then o (λ rs. Halts y)) g)

      pub later_halts : (e : Halt)
          → Gives {A = List Bindings} (gather (extended (named m w last) s) later) (Err e)
          → Gives {A = List Bindings} (kept_rows m w x s) (Err e)
      later_halts e g =
          λ n. stops (why_of e) (kept_members (condition m w x) (out-Named last).name (row ++ s) xs) refl (g n)

      -- the condition halts where no later row's source does
      pub condition_halts : (e : Halt) (rows : List Bindings)
          → gather (extended (named m w last) s) later ≡ Value rows
          → Gives {A = List Datum} (kept_members (condition m w x)
          (out-Named last).name (row ++ s) xs) (Err e)
          → Gives {A = List Bindings} (kept_rows m w x s) (Err e)
      condition_halts e rows r g =
          λ n. i ∙ (kept_stop m w s (condition m w x) last done row later d xs v a (why_of e) (g n)
          ∙ ap (λ o. and_then o (λ rs. Halts (why_of e))) r)

      -- the members that are kept become rows
      pub row_kept : (refs members : List (Bor Datum)) (rows : List Bindings)
          → kept_members (condition m w x) (out-Named last).name (row ++ s) xs
          ≡ Value (behind members)
          → refs ≡ members → rows ≡ done ++ rows_with (out-Named last).name row (behind refs)
          → kept_rows m w x s ≡ kept_on rows later
      row_kept refs members rows k r e =
          i ∙ (kept_more m w s (condition m w x) last done row later d xs v a (behind members) k
          ∙ ap (λ ds. kept_on ds later)
          (ap (λ ms. done ++ rows_with (out-Named last).name row (behind ms)) (sym r) ∙ sym e))

-- the answer that an exit hands on
pub exits : {A : Type 0} (o : Outcome A) (r : Result A Halt) (e : Halt) → r ≡ Err e → Gives o (Err e) → Gives o r
exits o r e x h = rw x h
