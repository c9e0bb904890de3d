-- The size of a tree: a node for each alternative of the grammar that was used.
use Rattle.std.specs.Prelude.{ℕ, ◌+◌, Option, Some, None, sum, sum_by}
use Rattle.qc_oql_tree.specs.declared.tree.Oql.{Oql}
use Rattle.qc_oql_tree.specs.declared.tree.Oql.TheOpen.{Oql-F, Filter-F, Key-F, Named-F, Order-F, Select-F}
use Rattle.qc_oql_tree.specs.declared.tree.Oql.TheFolds.{fold-Oql, fold-Filter, fold-Key, fold-Named, fold-Order}
use Rattle.qc_oql_tree.specs.declared.tree.Oql.TheFolds.{fold-Select}
use Rattle.qc_oql_tree.specs.declared.tree.Filter.{Filter}
use Rattle.qc_oql_tree.specs.declared.tree.Key.{Key}
use Rattle.qc_oql_tree.specs.declared.tree.Named.{Named}
use Rattle.qc_oql_tree.specs.declared.tree.Order.{Order}
use Rattle.qc_oql_tree.specs.declared.tree.Query.{Query}
use Rattle.qc_oql_tree.specs.declared.tree.Select.{Select}

-- the size of a part that may be left out
abbrev pub part : Option ℕ → ℕ
part None = 0
part (Some n) = n

-- an expression, by the sizes of its parts
abbrev pub oql_node : Oql-F ℕ ℕ ℕ ℕ ℕ ℕ → ℕ
oql_node (Oql-F.Name at name) = 1
oql_node (Oql-F.Whole at n) = 1
oql_node (Oql-F.Text at text) = 1
oql_node (Oql-F.Constant at constant) = 1
oql_node (Oql-F.Struct at fields) = 1 + sum fields
oql_node (Oql-F.Bag at xs) = 1 + sum xs
oql_node (Oql-F.Unary at operator x) = 1 + x
oql_node (Oql-F.Binary at operator x y) = 1 + (x + y)
oql_node (Oql-F.Divide at division x divisor) = 1 + x
oql_node (Oql-F.Like at x pattern) = 1 + x
oql_node (Oql-F.Dot at x label) = 1 + x
oql_node (Oql-F.Brand at branding class x) = 1 + x
oql_node (Oql-F.Match at x l r) = 1 + (x + (l + r))
oql_node (Oql-F.If at x y z) = 1 + (x + (y + z))
oql_node (Oql-F.Quantified at quantifier bind x) = 1 + (bind + x)
oql_node (Oql-F.Select at select) = 1 + select

-- a condition
abbrev pub filter_node : Filter-F ℕ ℕ ℕ ℕ ℕ ℕ → ℕ
filter_node f = 1 + f.test

-- a key
abbrev pub key_node : Key-F ℕ ℕ ℕ ℕ ℕ ℕ → ℕ
key_node k = 1 + k.of

-- a name with an expression
abbrev pub named_node : Named-F ℕ ℕ ℕ ℕ ℕ ℕ → ℕ
named_node n = 1 + n.of

-- an order
abbrev pub order_node : Order-F ℕ ℕ ℕ ℕ ℕ ℕ → ℕ
order_node o = 1 + sum o.keys

-- what stands behind `select`
abbrev pub select_node : Select-F ℕ ℕ ℕ ℕ ℕ ℕ → ℕ
select_node s = s.value + (sum s.sources + (part s.filter + part s.order))

-- how many nodes an expression has
abbrev pub size : Oql → ℕ
size x = fold-Oql ℕ ℕ ℕ ℕ ℕ ℕ oql_node filter_node key_node named_node order_node select_node x

-- the same of the structs of trees
abbrev pub filter_size : Filter → ℕ
filter_size x = fold-Filter ℕ ℕ ℕ ℕ ℕ ℕ oql_node filter_node key_node named_node order_node select_node x

abbrev pub key_size : Key → ℕ
key_size x = fold-Key ℕ ℕ ℕ ℕ ℕ ℕ oql_node filter_node key_node named_node order_node select_node x

abbrev pub named_size : Named → ℕ
named_size x = fold-Named ℕ ℕ ℕ ℕ ℕ ℕ oql_node filter_node key_node named_node order_node select_node x

abbrev pub order_size : Order → ℕ
order_size x = fold-Order ℕ ℕ ℕ ℕ ℕ ℕ oql_node filter_node key_node named_node order_node select_node x

abbrev pub select_size : Select → ℕ
select_size x = fold-Select ℕ ℕ ℕ ℕ ℕ ℕ oql_node filter_node key_node named_node order_node select_node x

-- how many nodes a query has
abbrev pub query_size : Query → ℕ
query_size q = sum_by named_size q.defines + size q.body
