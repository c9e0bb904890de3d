-- The outcome of an expression of a known form.
use Rattle.std.proofs.Common.{◌≡◌, ◌++◌, ℕ, List, Some, None, sym, ap, ◌∙◌, subst}
use Rattle.std.specs.Prelude.{Err, Result, map, option_map}
use Rattle.std.specs.Borrow.{Bor}
use Rattle.qc_data.specs.Outcome.{Mode, Outcome, Value, Gives, and_then, each}
use Rattle.qc_data.specs.declared.data.Datum.{Datum}
use Rattle.qc_data.specs.declared.data.Datum.TheVariants.{Coll}
use Rattle.qc_data.specs.declared.halt.Halt.{Halt}
use Rattle.qc_ops.specs.inner.Columns.{behind}
use Rattle.qc_types.specs.Schemas.{WorldOf}
use Rattle.qc_oql_tree.specs.declared.pairing.Pairing.{Pairing}
use Rattle.qc_oql_tree.specs.declared.tree.Binary.{Binary}
use Rattle.qc_oql_tree.specs.declared.tree.Oql.{Oql}
use Rattle.qc_oql_tree.specs.declared.tree.Oql.TheVariants as tree
use Rattle.qc_oql_tree.specs.Bindings.{Bindings, Meaning}
use Rattle.qc_oql_tree.specs.declared.tree.Oql.TheViews.{out-Select}
use Rattle.qc_oql_tree.specs.declared.tree.Select.{Select}
use Rattle.qc_oql_tree.specs.Meaning.{oql, named, filter, order}
use Rattle.qc_oql_tree.specs.SelectMeaning.{rows_of, filtered, ordered, distinct_if, selected}
use Rattle.qc_oql_eval.specs.inner.Selected.{kept_rows, of_kept}
use Rattle.qc_data.proofs.Outcomes.{bind_assoc}
use Rattle.qc_oql_tree.specs.OperatorMeanings.{or_else_of}
use Rattle.qc_oql_tree.specs.inner.Pairings.{paired, pairing_of, by_pairing}
use Rattle.qc_oql_tree.proofs.MeaningForms.{oql-Binary, oql-Select, select_is}
use Rattle.qc_oql_tree.proofs.Pairings.{two_is}

-- by the form that the tree has, and what that form means
pub arm : (m : Mode) (w : WorldOf) (s : Bindings) (x y : Oql) (f : Meaning) (r : Result Datum Halt)
    → x ≡ y → oql m w y ≡ f → Gives (f s) r → Gives (oql m w x s) r
arm m w s x y f r e d h = rw (e, d) h

-- an operator of two operands on the left one's value and the right operand
pub binary_arm : (m : Mode) (w : WorldOf) (s : Bindings) (x : Oql) (at : ℕ) (op : Binary) (a b : Oql) (p : Pairing)
    (left : Datum) (r : Result Datum Halt)
    → x ≡ tree.Binary at op a b → Some p ≡ pairing_of op → oql m w a s ≡ Value left
    → Gives (and_then (oql m w b s) (λ y. paired m p left y)) r → Gives (oql m w x s) r
binary_arm m w s x at op a b p left r e q v h =
    let by_form : oql m w (tree.Binary at op a b) s ≡ by_pairing m (pairing_of op) (oql m w a) (oql m w b) s =
    ap (λ f. f s) (oql-Binary m w at op a b) ∙ two_is m op (oql m w a) (oql m w b) s in
    let by_pair : by_pairing m (pairing_of op) (oql m w a) (oql m w b) s
    ≡ by_pairing m (Some p) (oql m w a) (oql m w b) s =
    ap (λ o. by_pairing m o (oql m w a) (oql m w b) s) (sym q) in
    let by_left : by_pairing m (Some p) (oql m w a) (oql m w b) s ≡ and_then (oql m w b s) (λ y. paired m p left y) =
    ap (λ o. and_then o (λ d. and_then (oql m w b s) (λ y. paired m p d y))) v in
    subst (λ o. Gives o r) (sym (ap (λ z. oql m w z s) e ∙ (by_form ∙ (by_pair ∙ by_left)))) h

-- `orelse` on the left operand's value and the right operand
pub or_else_arm : (m : Mode) (w : WorldOf) (s : Bindings) (x : Oql) (at : ℕ) (op : Binary) (a b : Oql) (left : Datum)
    (r : Result Datum Halt)
    → x ≡ tree.Binary at op a b → None ≡ pairing_of op → oql m w a s ≡ Value left
    → Gives (or_else_of (oql m w b) s left) r → Gives (oql m w x s) r
or_else_arm m w s x at op a b left r e q v h =
    let by_form : oql m w (tree.Binary at op a b) s ≡ by_pairing m (pairing_of op) (oql m w a) (oql m w b) s =
    ap (λ f. f s) (oql-Binary m w at op a b) ∙ two_is m op (oql m w a) (oql m w b) s in
    let by_pair : by_pairing m (pairing_of op) (oql m w a) (oql m w b) s ≡ by_pairing m None (oql m w a) (oql m w b) s =
    ap (λ o. by_pairing m o (oql m w a) (oql m w b) s) (sym q) in
    let by_left : by_pairing m None (oql m w a) (oql m w b) s ≡ or_else_of (oql m w b) s left =
    ap (λ o. and_then o (or_else_of (oql m w b) s)) v in
    subst (λ o. Gives o r) (sym (ap (λ z. oql m w z s) e ∙ (by_form ∙ (by_pair ∙ by_left)))) h

-- a select, by the rows that its condition keeps
pub select_arm : (m : Mode) (w : WorldOf) (s : Bindings) (x : Oql) (at : ℕ) (select : Select) (r : Result Datum Halt)
    → x ≡ tree.Select at select → Gives (and_then (kept_rows m w select s) (of_kept m w select s)) r
    → Gives (oql m w x s) r
select_arm m w s x at select r e h =
    let by_form : oql m w (tree.Select at select) s
    ≡ selected (out-Select select).distinct (oql m w (out-Select select).value)
    (map (named m w) (out-Select select).sources) (option_map (filter m w) (out-Select select).filter)
    (option_map (order m w) (out-Select select).order) s =
    ap (λ f. f s) (oql-Select m w at select ∙ select_is m w select) in
    let by_kept : oql m w (tree.Select at select) s ≡ and_then (kept_rows m w select s) (of_kept m w select s) =
    by_form ∙ sym (bind_assoc (rows_of (map (named m w) (out-Select select).sources) s)
    (filtered (option_map (filter m w) (out-Select select).filter) s) (of_kept m w select s)) in
    subst (λ o. Gives o r) (sym (ap (λ z. oql m w z s) e ∙ by_kept)) h

-- the values of a select, by the order of the rows, each read through a slice
module _ (m : Mode) (w : WorldOf) (s : Bindings) (x : Select) (kept rows : List Bindings)
    (sorted refs : List (Bor Bindings)) (k : rows ≡ kept)
    (o : ordered (option_map (order m w) (out-Select x).order) s rows ≡ Value (behind sorted)) (b : refs ≡ sorted) where
  abbrev pub valued : List Bindings → Outcome (List Datum)
  valued rs = each (λ row. oql m w (out-Select x).value (row ++ s)) rs

  abbrev pub collected : List Datum → Outcome Datum
  collected values = Value (Coll (distinct_if (out-Select x).distinct values))

  by_order : of_kept m w x s kept ≡ and_then (valued (behind refs)) collected
  by_order =
      ap (of_kept m w x s) (sym k) ∙ (ap (λ a. and_then a (λ rs. and_then (valued rs) collected)) o
      ∙ ap (λ rs. and_then (valued (behind rs)) collected) (sym b))

  pub values_halt : (e : Halt) → Gives {A = List Datum} (valued (behind refs)) (Err e)
      → Gives {A = Datum} (of_kept m w x s kept) (Err e)
  values_halt e h = λ n. by_order ∙ ap (λ a. and_then a collected) (h n)

  pub of_values : (values : List Datum) (r : Result Datum Halt) → valued (behind refs) ≡ Value values
      → Gives (collected values) r → Gives (of_kept m w x s kept) r
  of_values values r h g =
      subst (λ a. Gives a r) (sym (by_order ∙ ap (λ a. and_then a collected) h)) g
