-- Queries with names alone where they bind, use or look for one, and with no divisor 0. Each query that has a type is
-- one.
use Rattle.std.specs.Prelude.{ℕ, Bool, true, ◌&&◌, List, [], ◌∷◌, map, Option, Some, None}
use Rattle.qc_containers.specs.Name.{is_name}
use Rattle.qc_data.specs.Facts.{all_true}
use Rattle.qc_oql_tree.specs.declared.tree.Oql.{Oql}
use Rattle.qc_oql_tree.specs.declared.tree.Oql.TheOpen.{Oql-F, Filter-F, Key-F, Named-F, Order-F, Select-F}
use Rattle.qc_oql_tree.specs.declared.tree.Oql.TheFolds.{fold-Oql, fold-Filter, fold-Key, fold-Named, fold-Order}
use Rattle.qc_oql_tree.specs.declared.tree.Oql.TheFolds.{fold-Select}
use Rattle.qc_oql_tree.specs.declared.tree.Filter.{Filter}
use Rattle.qc_oql_tree.specs.declared.tree.Key.{Key}
use Rattle.qc_oql_tree.specs.declared.tree.Named.{Named}
use Rattle.qc_oql_tree.specs.declared.tree.Order.{Order}
use Rattle.qc_oql_tree.specs.declared.tree.Query.{Query}
use Rattle.qc_oql_tree.specs.declared.tree.Select.{Select}
use Rattle.qc_oql_tree.specs.OperatorMeanings.{is_divisor}

-- the names of the pairs are names
abbrev pub are_names : {T : Type 0} → List (List ℕ × T) → Bool
are_names [] = true
are_names (p ∷ ps) = is_name p.0 && are_names ps

-- true where a part is absent
abbrev pub part_names : Option Bool → Bool
part_names None = true
part_names (Some b) = b

-- an expression, by the same of its parts
abbrev pub oql_names : Oql-F Bool Bool Bool Bool Bool Bool → Bool
oql_names (Oql-F.Name at name) = is_name name
oql_names (Oql-F.Whole at n) = true
oql_names (Oql-F.Text at text) = true
oql_names (Oql-F.Constant at constant) = true
oql_names (Oql-F.Struct at fields) = all_true fields
oql_names (Oql-F.Bag at members) = all_true members
oql_names (Oql-F.Unary at op a) = a
oql_names (Oql-F.Binary at op a b) = a && b
oql_names (Oql-F.Divide at division a k) = a && is_divisor k
oql_names (Oql-F.Like at a pattern) = a
oql_names (Oql-F.Dot at a label) = a && is_name label
oql_names (Oql-F.Brand at branding class a) = a && is_name class
oql_names (Oql-F.Match at a l r) = a && (l && r)
oql_names (Oql-F.If at test a b) = test && (a && b)
oql_names (Oql-F.Quantified at q source test) = source && test
oql_names (Oql-F.Select at select) = select

-- a condition
abbrev pub filter_names : Filter-F Bool Bool Bool Bool Bool Bool → Bool
filter_names f = f.test

-- a key
abbrev pub key_names : Key-F Bool Bool Bool Bool Bool Bool → Bool
key_names k = k.of

-- a name with an expression
abbrev pub named_names : Named-F Bool Bool Bool Bool Bool Bool → Bool
named_names n = is_name n.name && n.of

-- an order
abbrev pub order_names : Order-F Bool Bool Bool Bool Bool Bool → Bool
order_names o = all_true o.keys

-- what stands behind `select`
abbrev pub select_names : Select-F Bool Bool Bool Bool Bool Bool → Bool
select_names x = all_true x.sources && (part_names x.filter && (part_names x.order && x.value))

-- an expression has names alone, and no divisor 0
abbrev pub has_names : Oql → Bool
has_names x =
    fold-Oql Bool Bool Bool Bool Bool Bool
    oql_names filter_names key_names named_names order_names select_names x

-- the same of the structs of trees
abbrev pub filter_has_names : Filter → Bool
filter_has_names x =
    fold-Filter Bool Bool Bool Bool Bool Bool
    oql_names filter_names key_names named_names order_names select_names x

abbrev pub key_has_names : Key → Bool
key_has_names x =
    fold-Key Bool Bool Bool Bool Bool Bool
    oql_names filter_names key_names named_names order_names select_names x

abbrev pub named_has_names : Named → Bool
named_has_names x =
    fold-Named Bool Bool Bool Bool Bool Bool
    oql_names filter_names key_names named_names order_names select_names x

abbrev pub order_has_names : Order → Bool
order_has_names x =
    fold-Order Bool Bool Bool Bool Bool Bool
    oql_names filter_names key_names named_names order_names select_names x

abbrev pub select_has_names : Select → Bool
select_has_names x =
    fold-Select Bool Bool Bool Bool Bool Bool
    oql_names filter_names key_names named_names order_names select_names x

-- a query
abbrev pub query_has_names : Query → Bool
query_has_names q = all_true (map named_has_names q.defines) && has_names q.body
