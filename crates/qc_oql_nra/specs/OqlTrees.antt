-- The trees of the algebra for queries.
use Rattle.std.specs.Prelude.{List, [], ◌∷◌, map}
use Rattle.qc_data.specs.declared.data.Datum.TheVariants.{Int, Text}
use Rattle.qc_nra.specs.declared.tree.Nra.{Nra}
use Rattle.qc_nra.specs.declared.tree.Nra.TheVariants as nra
use Rattle.qc_ops.specs.declared.op.Unary.TheVariants as one
use Rattle.qc_oql_tree.specs.declared.tree.Oql.{Oql}
use Rattle.qc_oql_tree.specs.declared.tree.Oql.TheOpen.{Oql-F, Filter-F, Key-F, Named-F, Order-F, Select-F}
use Rattle.qc_oql_tree.specs.declared.tree.Oql.TheFolds.{fold-Oql, fold-Filter, fold-Key, fold-Named, fold-Order}
use Rattle.qc_oql_tree.specs.declared.tree.Oql.TheFolds.{fold-Select}
use Rattle.qc_oql_tree.specs.declared.tree.Filter.{Filter}
use Rattle.qc_oql_tree.specs.declared.tree.Key.{Key}
use Rattle.qc_oql_tree.specs.declared.tree.Named.{Named}
use Rattle.qc_oql_tree.specs.declared.tree.Order.{Order}
use Rattle.qc_oql_tree.specs.declared.tree.Query.{Query}
use Rattle.qc_oql_tree.specs.declared.tree.Select.{Select}
use Rattle.qc_oql_tree.specs.FormMeanings.{constant}
use Rattle.qc_oql_tree.specs.OperatorMeanings.{branding, division}
use Rattle.qc_oql_tree.specs.inner.Pairings.{on_one, pairing_of}
use Rattle.qc_oql_nra.specs.OqlForms.{Translation, NamedTranslation, KeyTranslation, name_tree, one_tree, two_tree}
use Rattle.qc_oql_nra.specs.OqlForms.{struct_tree, bag_tree, match_tree, if_tree, quantified_tree, select_tree}
use Rattle.qc_oql_nra.specs.OqlForms.{binding}

-- an expression, by the trees for its parts
abbrev pub form : Oql-F Translation Translation KeyTranslation NamedTranslation (List KeyTranslation) Translation
    → Translation
form (Oql-F.Name at name) = name_tree name
form (Oql-F.Whole at n) = λ s. nra.Const (Int n)
form (Oql-F.Text at text) = λ s. nra.Const (Text text)
form (Oql-F.Constant at c) = λ s. nra.Const (constant c)
form (Oql-F.Struct at fields) = struct_tree fields
form (Oql-F.Bag at members) = bag_tree members
form (Oql-F.Unary at op a) = λ s. one_tree (on_one op) (a s)
form (Oql-F.Binary at op a b) = λ s. two_tree (pairing_of op) (a s) (b s)
form (Oql-F.Divide at d a k) = λ s. nra.Unary (division d k) (a s)
form (Oql-F.Like at a pattern) = λ s. nra.Unary (one.Like pattern) (a s)
form (Oql-F.Dot at a label) = λ s. nra.Unary (one.Dot label) (a s)
form (Oql-F.Brand at b class a) = λ s. nra.Unary (branding b class) (a s)
form (Oql-F.Match at a l r) = match_tree a l r
form (Oql-F.If at test a b) = if_tree test a b
form (Oql-F.Quantified at q source test) = quantified_tree q source test
form (Oql-F.Select at select) = select

-- a condition
abbrev pub filter_form : Filter-F Translation Translation KeyTranslation NamedTranslation (List KeyTranslation)
    Translation → Translation
filter_form f = f.test

-- a key
abbrev pub key_form : Key-F Translation Translation KeyTranslation NamedTranslation (List KeyTranslation)
    Translation → KeyTranslation
key_form k = (k.of, k.direction)

-- a name with an expression
abbrev pub named_form : Named-F Translation Translation KeyTranslation NamedTranslation (List KeyTranslation)
    Translation → NamedTranslation
named_form n = (n.name, n.of)

-- an order
abbrev pub order_form : Order-F Translation Translation KeyTranslation NamedTranslation (List KeyTranslation)
    Translation → List KeyTranslation
order_form o = o.keys

-- what stands behind `select`
abbrev pub select_form : Select-F Translation Translation KeyTranslation NamedTranslation (List KeyTranslation)
    Translation → Translation
select_form x = select_tree x.distinct x.value x.sources x.filter x.order

-- the tree for an expression, by the names that are bound
abbrev pub oql_tree : Oql → Translation
oql_tree x =
    fold-Oql Translation Translation KeyTranslation NamedTranslation (List KeyTranslation) Translation
    form filter_form key_form named_form order_form select_form x

-- the same of the structs of trees
abbrev pub filter_tree : Filter → Translation
filter_tree x =
    fold-Filter Translation Translation KeyTranslation NamedTranslation (List KeyTranslation) Translation
    form filter_form key_form named_form order_form select_form x

abbrev pub key_tree : Key → KeyTranslation
key_tree x =
    fold-Key Translation Translation KeyTranslation NamedTranslation (List KeyTranslation) Translation
    form filter_form key_form named_form order_form select_form x

abbrev pub named_tree : Named → NamedTranslation
named_tree x =
    fold-Named Translation Translation KeyTranslation NamedTranslation (List KeyTranslation) Translation
    form filter_form key_form named_form order_form select_form x

abbrev pub order_tree : Order → List KeyTranslation
order_tree x =
    fold-Order Translation Translation KeyTranslation NamedTranslation (List KeyTranslation) Translation
    form filter_form key_form named_form order_form select_form x

abbrev pub part_tree : Select → Translation
part_tree x =
    fold-Select Translation Translation KeyTranslation NamedTranslation (List KeyTranslation) Translation
    form filter_form key_form named_form order_form select_form x

-- the expression with what is defined, each definition bound for the later ones
abbrev pub defined_tree : List NamedTranslation → Translation → Translation
defined_tree [] body s = body s
defined_tree (d ∷ ds) body s = nra.EnvComp (defined_tree ds body (d.0 ∷ s)) (binding d.0 (d.1 s))

-- the tree for a query
abbrev pub query_tree : Query → Nra
query_tree q = defined_tree (map named_tree q.defines) (oql_tree q.body) []
