-- The meaning of a select in two steps, by the meanings of its parts.
use Rattle.std.specs.Prelude.{List, Option, ◌++◌, map, option_map}
use Rattle.qc_data.specs.Outcome.{Mode, Outcome, Value, and_then, each}
use Rattle.qc_data.specs.declared.data.Datum.{Datum}
use Rattle.qc_data.specs.declared.data.Datum.TheVariants.{Coll}
use Rattle.qc_types.specs.Schemas.{WorldOf}
use Rattle.qc_oql_tree.specs.declared.tree.Oql.TheViews.{out-Select}
use Rattle.qc_oql_tree.specs.declared.tree.Select.{Select}
use Rattle.qc_oql_tree.specs.Bindings.{Bindings, Meaning}
use Rattle.qc_oql_tree.specs.Meaning.{oql, named, filter, order}
use Rattle.qc_oql_tree.specs.SelectMeaning.{rows_of, filtered, ordered, distinct_if}

-- the condition, if there is one
abbrev pub condition : Mode → WorldOf → Select → Option Meaning
condition m w x = option_map (filter m w) (out-Select x).filter

-- the rows that the condition keeps
abbrev pub kept_rows : Mode → WorldOf → Select → Bindings → Outcome (List Bindings)
kept_rows m w x s =
    and_then (rows_of (map (named m w) (out-Select x).sources) s) (filtered (condition m w x) s)

-- their values in order
abbrev pub of_kept : Mode → WorldOf → Select → Bindings → List Bindings → Outcome Datum
of_kept m w x s kept =
    and_then (ordered (option_map (order m w) (out-Select x).order) s kept) (λ sorted.
    and_then (each (λ row. oql m w (out-Select x).value (row ++ s)) sorted) (λ values.
    Value (Coll (distinct_if (out-Select x).distinct values))))
