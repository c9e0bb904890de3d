-- The typing of a select, by the typings of its parts.
use Rattle.std.specs.Prelude.{map, option_map}
use Rattle.qc_types.specs.Schemas.{SchemaOf}
use Rattle.qc_oql_tree.specs.declared.tree.Oql.TheViews.{out-Select}
use Rattle.qc_oql_tree.specs.declared.tree.Select.{Select}
use Rattle.qc_oql_tree.specs.FormTypings.{Typing, selected_type}
use Rattle.qc_oql_tree.specs.Typing.{oql_type, named_type, filter_type, order_type}

-- what stands behind `select`
abbrev pub by_parts : SchemaOf → Select → Typing
by_parts schema x =
    selected_type schema.classes (oql_type schema (out-Select x).value) (map (named_type schema) (out-Select x).sources)
    (option_map (filter_type schema) (out-Select x).filter) (option_map (order_type schema) (out-Select x).order)
