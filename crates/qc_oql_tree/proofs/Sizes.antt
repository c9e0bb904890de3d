-- Every query has a node.
use Rattle.std.proofs.Common.{◌≤◌, ◌+◌, ℕ, rules, arith}
use Rattle.qc_oql_tree.specs.declared.tree.Oql.{Oql}
use Rattle.qc_oql_tree.specs.declared.tree.Oql.TheOpen.{Oql-F}
use Rattle.qc_oql_tree.specs.declared.tree.Oql.TheFolds.{fold_out-Oql}
use Rattle.qc_oql_tree.specs.declared.tree.Query.{Query}
use Rattle.qc_oql_tree.specs.Sizes.{oql_node, filter_node, key_node, named_node, order_node, select_node}
use Rattle.qc_oql_tree.specs.Sizes.{size, query_size}

-- a form is a node
node_sized : (x : Oql-F ℕ ℕ ℕ ℕ ℕ ℕ) → 1 ≤ oql_node x
node_sized (Oql-F.Name at name) = omega arith
node_sized (Oql-F.Whole at n) = omega arith
node_sized (Oql-F.Text at text) = omega arith
node_sized (Oql-F.Constant at constant) = omega arith
node_sized (Oql-F.Struct at fields) = omega arith
node_sized (Oql-F.Bag at xs) = omega arith
node_sized (Oql-F.Unary at operator x) = omega arith
node_sized (Oql-F.Binary at operator x y) = omega arith
node_sized (Oql-F.Divide at division x divisor) = omega arith
node_sized (Oql-F.Like at x pattern) = omega arith
node_sized (Oql-F.Dot at x label) = omega arith
node_sized (Oql-F.Brand at branding class x) = omega arith
node_sized (Oql-F.Match at x l r) = omega arith
node_sized (Oql-F.If at x y z) = omega arith
node_sized (Oql-F.Quantified at quantifier bind x) = omega arith
node_sized (Oql-F.Select at select) = omega arith

expression_sized : (x : Oql) → 1 ≤ size x
expression_sized x =
    let e = fold_out-Oql ℕ ℕ ℕ ℕ ℕ ℕ oql_node filter_node key_node named_node order_node select_node x in
    rw e (node_sized _)

pub query_sized : (q : Query) → 1 ≤ query_size q
query_sized q = let one = expression_sized q.body in omega (arith, one)
