use Rattle.std.proofs.Common.{◌≡◌, ◌∷◌, ◌++◌, drop, length, map}
use Rattle.qc_data.specs.declared.data.Datum.TheVariants.{Rec}
use Rattle.qc_data.specs.Outcome.{Value, and_then, alone, bits64, each, gather}
use Rattle.qc_data.proofs.Outcomes.{gather_from}
use Rattle.qc_ops.specs.inner.Columns.{behind}
use Rattle.qc_ops.specs.Operands.{bag}
use Rattle.qc_oql_eval.specs.inner.Scopes.{bindings_of}
use Rattle.qc_oql_tree.specs.FormMeanings.{collected, decided, field_of, record_of, structured, truth}
use Rattle.qc_oql_tree.specs.Meaning.{key, named, oql}
use Rattle.qc_oql_eval.specs.inner.SelectRows.{keyed_rows}
use Rattle.qc_oql_eval.specs.inner.Kept.{kept_member}
use Rattle.qc_oql_eval.specs.inner.Selected.{kept_rows}
use Rattle.qc_oql_tree.specs.SelectMeaning.{extended, key_values, keyed, rows_from, rows_of}
use Rattle.qc_oql_eval.proofs.Deciding.{decided_from}
use Rattle.qc_oql_eval.proofs.Streams.{kept_on}
use Rattle.qc_oql_eval.proofs.+eval.Given as goal

abbrev pub invariant-quantifying::decided-loop-item : goal.invariant-quantifying::decided-loop-item
invariant-quantifying::decided-loop-item l =
    decided l.quantifier l.name (oql bits64 l.world l.test) (bindings_of l.scope) l.items
    ≡ decided_from l.quantifier l.answer (λ x. truth (oql bits64 l.world l.test) ((l.name, x) ∷ bindings_of l.scope))
    (drop l.item-index l.items)

abbrev pub invariant-expression::collected-loop-member : goal.invariant-expression::collected-loop-member
invariant-expression::collected-loop-member l =
    collected (map (oql bits64 l.world) l.members) (bindings_of l.scope)
    ≡ bag (gather_from (λ member. alone (member (bindings_of l.scope))) l.items
    (map (oql bits64 l.world) (drop l.member-index l.members)))

abbrev pub invariant-expression::structured-loop-field : goal.invariant-expression::structured-loop-field
invariant-expression::structured-loop-field l =
    structured (map (named bits64 l.world) l.fields) (bindings_of l.scope)
    ≡ and_then (gather_from (λ n. alone (field_of (bindings_of l.scope) n)) l.pairs.items
    (map (named bits64 l.world) (drop l.field-index l.fields))) (λ fs. Value (Rec (record_of fs)))

abbrev pub invariant-selecting::rows_of-loop-source : goal.invariant-selecting::rows_of-loop-source
invariant-selecting::rows_of-loop-source l =
    rows_of (map (named bits64 l.world) l.sources) (bindings_of l.scope)
    ≡ rows_from (map (named bits64 l.world) (drop l.source-index l.sources)) (bindings_of l.scope) l.rows

abbrev pub invariant-selecting::extended-loop-row : goal.invariant-selecting::extended-loop-row
invariant-selecting::extended-loop-row l =
    gather (extended (named bits64 l.world l.source) (bindings_of l.scope)) l.rows
    ≡ gather_from (extended (named bits64 l.world l.source) (bindings_of l.scope)) l.all (drop l.row-index l.rows)

abbrev pub invariant-selecting::keyed_rows-loop-row : goal.invariant-selecting::keyed_rows-loop-row
invariant-selecting::keyed_rows-loop-row l =
    each (keyed (map (key bits64 l.world) l.keys) (bindings_of l.scope)) l.rows
    ≡ gather_from (λ row. alone (keyed (map (key bits64 l.world) l.keys) (bindings_of l.scope) row))
    (keyed_rows l.all.items) (drop l.row-index l.rows)

abbrev pub invariant-selecting::key_values-loop-key : goal.invariant-selecting::key_values-loop-key
invariant-selecting::key_values-loop-key l =
    key_values (map (key bits64 l.world) l.keys) (bindings_of l.scope)
    ≡ gather_from (λ key. alone (key.0 (bindings_of l.scope))) l.values
    (map (key bits64 l.world) (drop l.key-index l.keys))

abbrev pub invariant-selecting::values_of-loop-row : goal.invariant-selecting::values_of-loop-row
invariant-selecting::values_of-loop-row l =
    each (λ row. oql bits64 l.world l.value (row ++ bindings_of l.scope)) (behind l.rows)
    ≡ gather_from (λ row. alone (oql bits64 l.world l.value (row ++ bindings_of l.scope))) l.values
    (behind (drop l.row-index l.rows))

abbrev pub invariant-keeping::kept_rows-loop-rest : goal.invariant-keeping::kept_rows-loop-rest
invariant-keeping::kept_rows-loop-rest l =
    kept_rows bits64 l.world l.select (bindings_of l.scope)
    ≡ kept_on bits64 l.world (bindings_of l.scope) l.select l.last l.kept l.rest

abbrev pub decreases-keeping::kept_rows-loop-rest : goal.decreases-keeping::kept_rows-loop-rest
decreases-keeping::kept_rows-loop-rest l = length l.rest

abbrev pub invariant-keeping::members_meeting-loop-member : goal.invariant-keeping::members_meeting-loop-member
invariant-keeping::members_meeting-loop-member l =
    gather (kept_member (oql bits64 l.world l.test) l.name (bindings_of l.scope)) l.members
    ≡ gather_from (kept_member (oql bits64 l.world l.test) l.name (bindings_of l.scope)) (behind l.kept.items)
    (drop l.member-index l.members)
