-- The structs of trees, from their parts.
use Rattle.std.specs.Prelude.{ℕ, Bool, List, Option}
use Rattle.qc_oql_tree.specs.declared.tree.Oql.{Oql}
use Rattle.qc_oql_tree.specs.declared.tree.Named.{Named}
use Rattle.qc_oql_tree.specs.declared.tree.Select.{Select}
use Rattle.qc_oql_tree.specs.declared.tree.Filter.{Filter}
use Rattle.qc_oql_tree.specs.declared.tree.Order.{Order}
use Rattle.qc_oql_tree.specs.declared.tree.Key.{Key}
use Rattle.qc_oql_tree.specs.declared.tree.Direction.{Direction}
use Rattle.qc_oql_tree.specs.declared.tree.Oql.TheViews.{roll-Named, roll-Select, roll-Filter, roll-Order, roll-Key}

-- a name with an expression
abbrev pub named : ℕ → List ℕ → Oql → Named
named at name x = roll-Named (record { at = at; name = name; of = x })

-- a select
abbrev pub select : Bool → Oql → List Named → Option Filter → Option Order → Select
select distinct x bs f o = roll-Select (record { distinct = distinct; value = x; sources = bs; filter = f; order = o })

-- a condition
abbrev pub filter : ℕ → Oql → Filter
filter at x = roll-Filter (record { at = at; test = x })

-- an order
abbrev pub order : ℕ → List Key → Order
order at ks = roll-Order (record { at = at; keys = ks })

-- a key
abbrev pub key : Oql → Direction → Key
key x d = roll-Key (record { of = x; direction = d })
