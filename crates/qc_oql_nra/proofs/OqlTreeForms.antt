-- The tree for each form of a query, by the trees for its parts.
use Rattle.std.proofs.Common.{◌≡◌, ℕ, ℤ, Bool, List, map, rules, sym, ap, ◌∙◌}
use Rattle.std.specs.Prelude.{Option, Some, None, option_map}
use Rattle.qc_data.specs.declared.data.Datum.TheVariants.{Int, Text}
use Rattle.qc_nra.specs.declared.tree.Nra.TheVariants as nra
use Rattle.qc_ops.specs.declared.op.Unary.TheVariants as one
use Rattle.qc_oql_tree.specs.declared.tree.Oql.{Oql}
use Rattle.qc_oql_tree.specs.declared.tree.Oql.TheVariants as tree
use Rattle.qc_oql_tree.specs.declared.tree.Oql.TheOpen.{Oql-F, Select-F}
use Rattle.qc_oql_tree.specs.declared.tree.Oql.TheViews.{roll-Oql, roll-Select, out-Filter, out-Key, out-Named}
use Rattle.qc_oql_tree.specs.declared.tree.Oql.TheViews.{out-Order, out-Select, the_lemmas}
use Rattle.qc_oql_tree.specs.declared.tree.Oql.TheFolds.{fold-roll-Oql, fold-roll-Select, fold_out-Filter, fold_out-Key}
use Rattle.qc_oql_tree.specs.declared.tree.Oql.TheFolds.{fold_out-Named, fold_out-Order, map-Oql}
use Rattle.qc_oql_tree.specs.declared.tree.Filter.{Filter}
use Rattle.qc_oql_tree.specs.declared.tree.Key.{Key}
use Rattle.qc_oql_tree.specs.declared.tree.Named.{Named}
use Rattle.qc_oql_tree.specs.declared.tree.Order.{Order}
use Rattle.qc_oql_tree.specs.declared.tree.Select.{Select}
use Rattle.qc_oql_tree.specs.declared.tree.Binary.{Binary}
use Rattle.qc_oql_tree.specs.declared.tree.Branding.{Branding}
use Rattle.qc_oql_tree.specs.declared.tree.Constant.{Constant}
use Rattle.qc_oql_tree.specs.declared.tree.Division.{Division}
use Rattle.qc_oql_tree.specs.declared.tree.Quantifier.{Quantifier}
use Rattle.qc_oql_tree.specs.declared.tree.Unary.{Unary}
use Rattle.qc_oql_tree.specs.FormMeanings.{constant}
use Rattle.qc_oql_tree.specs.OperatorMeanings.{branding, division}
use Rattle.qc_oql_tree.specs.inner.Pairings.{on_one, pairing_of}
use Rattle.qc_oql_nra.specs.OqlForms.{Scope, Translation, NamedTranslation, KeyTranslation, name_tree, one_tree}
use Rattle.qc_oql_nra.specs.OqlForms.{two_tree, struct_tree, bag_tree, match_tree, if_tree, quantified_tree}
use Rattle.qc_oql_nra.specs.OqlForms.{select_tree}
use Rattle.qc_oql_nra.specs.OqlTrees.{form, filter_form, key_form, named_form, order_form, select_form, oql_tree}
use Rattle.qc_oql_nra.specs.OqlTrees.{filter_tree, key_tree, named_tree, order_tree, part_tree}

layer : (x : Oql-F Oql Filter Key Named Order Select) (t : Oql) (s : Scope) → roll-Oql x ≡ t
    → oql_tree t s ≡ form (map-Oql Oql Filter Key Named Order Select Translation Translation KeyTranslation
    NamedTranslation (List KeyTranslation) Translation oql_tree filter_tree key_tree named_tree order_tree part_tree x)
    s
layer x t s e =
    ap (λ t. oql_tree t s) (sym e)
    ∙ ap (λ f. f s) (fold-roll-Oql Translation Translation KeyTranslation NamedTranslation (List KeyTranslation)
    Translation form filter_form key_form named_form order_form select_form x)

pub tree-Name : (at : ℕ) (name : List ℕ) (s : Scope) → oql_tree (tree.Name at name) s ≡ name_tree name s
tree-Name at name s = layer (Oql-F.Name at name) (tree.Name at name) s (search (rules, the_lemmas))

pub tree-Whole : (at : ℕ) (n : ℤ) (s : Scope) → oql_tree (tree.Whole at n) s ≡ nra.Const (Int n)
tree-Whole at n s = layer (Oql-F.Whole at n) (tree.Whole at n) s (search (rules, the_lemmas))

pub tree-Text : (at : ℕ) (text : List ℕ) (s : Scope) → oql_tree (tree.Text at text) s ≡ nra.Const (Text text)
tree-Text at text s = layer (Oql-F.Text at text) (tree.Text at text) s (search (rules, the_lemmas))

pub tree-Constant : (at : ℕ) (k : Constant) (s : Scope) → oql_tree (tree.Constant at k) s ≡ nra.Const (constant k)
tree-Constant at k s = layer (Oql-F.Constant at k) (tree.Constant at k) s (search (rules, the_lemmas))

pub tree-Struct : (at : ℕ) (fields : List Named) (s : Scope)
    → oql_tree (tree.Struct at fields) s ≡ struct_tree (map named_tree fields) s
tree-Struct at fields s = layer (Oql-F.Struct at fields) (tree.Struct at fields) s (search (rules, the_lemmas))

pub tree-Bag : (at : ℕ) (members : List Oql) (s : Scope)
    → oql_tree (tree.Bag at members) s ≡ bag_tree (map oql_tree members) s
tree-Bag at members s = layer (Oql-F.Bag at members) (tree.Bag at members) s (search (rules, the_lemmas))

pub tree-Unary : (at : ℕ) (op : Unary) (a : Oql) (s : Scope)
    → oql_tree (tree.Unary at op a) s ≡ one_tree (on_one op) (oql_tree a s)
tree-Unary at op a s = layer (Oql-F.Unary at op a) (tree.Unary at op a) s (search (rules, the_lemmas))

pub tree-Binary : (at : ℕ) (op : Binary) (a b : Oql) (s : Scope)
    → oql_tree (tree.Binary at op a b) s ≡ two_tree (pairing_of op) (oql_tree a s) (oql_tree b s)
tree-Binary at op a b s = layer (Oql-F.Binary at op a b) (tree.Binary at op a b) s (search (rules, the_lemmas))

pub tree-Divide : (at : ℕ) (d : Division) (a : Oql) (k : ℤ) (s : Scope)
    → oql_tree (tree.Divide at d a k) s ≡ nra.Unary (division d k) (oql_tree a s)
tree-Divide at d a k s = layer (Oql-F.Divide at d a k) (tree.Divide at d a k) s (search (rules, the_lemmas))

pub tree-Like : (at : ℕ) (a : Oql) (pattern : List ℕ) (s : Scope)
    → oql_tree (tree.Like at a pattern) s ≡ nra.Unary (one.Like pattern) (oql_tree a s)
tree-Like at a pattern s = layer (Oql-F.Like at a pattern) (tree.Like at a pattern) s (search (rules, the_lemmas))

pub tree-Dot : (at : ℕ) (a : Oql) (label : List ℕ) (s : Scope)
    → oql_tree (tree.Dot at a label) s ≡ nra.Unary (one.Dot label) (oql_tree a s)
tree-Dot at a label s = layer (Oql-F.Dot at a label) (tree.Dot at a label) s (search (rules, the_lemmas))

pub tree-Brand : (at : ℕ) (b : Branding) (class : List ℕ) (a : Oql) (s : Scope)
    → oql_tree (tree.Brand at b class a) s ≡ nra.Unary (branding b class) (oql_tree a s)
tree-Brand at b class a s = layer (Oql-F.Brand at b class a) (tree.Brand at b class a) s (search (rules, the_lemmas))

pub tree-Match : (at : ℕ) (a : Oql) (l r : Named) (s : Scope)
    → oql_tree (tree.Match at a l r) s ≡ match_tree (oql_tree a) (named_tree l) (named_tree r) s
tree-Match at a l r s = layer (Oql-F.Match at a l r) (tree.Match at a l r) s (search (rules, the_lemmas))

pub tree-If : (at : ℕ) (test a b : Oql) (s : Scope)
    → oql_tree (tree.If at test a b) s ≡ if_tree (oql_tree test) (oql_tree a) (oql_tree b) s
tree-If at test a b s = layer (Oql-F.If at test a b) (tree.If at test a b) s (search (rules, the_lemmas))

pub tree-Quantified : (at : ℕ) (q : Quantifier) (source : Named) (test : Oql) (s : Scope)
    → oql_tree (tree.Quantified at q source test) s ≡ quantified_tree q (named_tree source) (oql_tree test) s
tree-Quantified at q source test s =
    layer (Oql-F.Quantified at q source test) (tree.Quantified at q source test) s (search (rules, the_lemmas))

pub tree-Select : (at : ℕ) (x : Select) (s : Scope) → oql_tree (tree.Select at x) s ≡ part_tree x s
tree-Select at x s = layer (Oql-F.Select at x) (tree.Select at x) s (search (rules, the_lemmas))

-- ---- the structs of trees

pub named_is : (n : Named) → named_tree n ≡ ((out-Named n).name, oql_tree (out-Named n).of)
named_is n =
    fold_out-Named Translation Translation KeyTranslation NamedTranslation (List KeyTranslation) Translation
    form filter_form key_form named_form order_form select_form n

pub named_name : (n : Named) → (named_tree n).0 ≡ (out-Named n).name
named_name n = ap (λ a. a.0) (named_is n)

pub filter_is : (f : Filter) → filter_tree f ≡ oql_tree (out-Filter f).test
filter_is f =
    fold_out-Filter Translation Translation KeyTranslation NamedTranslation (List KeyTranslation) Translation
    form filter_form key_form named_form order_form select_form f

pub key_is : (k : Key) → key_tree k ≡ (oql_tree (out-Key k).of, (out-Key k).direction)
key_is k =
    fold_out-Key Translation Translation KeyTranslation NamedTranslation (List KeyTranslation) Translation
    form filter_form key_form named_form order_form select_form k

pub order_is : (o : Order) → order_tree o ≡ map key_tree (out-Order o).keys
order_is o =
    fold_out-Order Translation Translation KeyTranslation NamedTranslation (List KeyTranslation) Translation
    form filter_form key_form named_form order_form select_form o

select_parts : (d : Bool) (v : Oql) (bs : List Named) (f : Option Filter) (o : Option Order)
    → part_tree (roll-Select (record { distinct = d; value = v; sources = bs; filter = f; order = o }))
    ≡ select_tree d (oql_tree v) (map named_tree bs) (option_map filter_tree f) (option_map order_tree o)
select_parts d v bs None None =
    fold-roll-Select Translation Translation KeyTranslation NamedTranslation (List KeyTranslation) Translation
    form filter_form key_form named_form order_form select_form
    (record { distinct = d; value = v; sources = bs; filter = None; order = None })
select_parts d v bs None (Some o) =
    fold-roll-Select Translation Translation KeyTranslation NamedTranslation (List KeyTranslation) Translation
    form filter_form key_form named_form order_form select_form
    (record { distinct = d; value = v; sources = bs; filter = None; order = Some o })
select_parts d v bs (Some f) None =
    fold-roll-Select Translation Translation KeyTranslation NamedTranslation (List KeyTranslation) Translation
    form filter_form key_form named_form order_form select_form
    (record { distinct = d; value = v; sources = bs; filter = Some f; order = None })
select_parts d v bs (Some f) (Some o) =
    fold-roll-Select Translation Translation KeyTranslation NamedTranslation (List KeyTranslation) Translation
    form filter_form key_form named_form order_form select_form
    (record { distinct = d; value = v; sources = bs; filter = Some f; order = Some o })

pub select_roll : (x : Select-F Oql Filter Key Named Order Select)
    → part_tree (roll-Select x) ≡ select_tree x.distinct (oql_tree x.value) (map named_tree x.sources)
    (option_map filter_tree x.filter) (option_map order_tree x.order)
select_roll x = select_parts x.distinct x.value x.sources x.filter x.order

pub select_is : (x : Select)
    → part_tree x ≡ select_tree (out-Select x).distinct (oql_tree (out-Select x).value)
    (map named_tree (out-Select x).sources) (option_map filter_tree (out-Select x).filter)
    (option_map order_tree (out-Select x).order)
select_is x =
    let e : x ≡ roll-Select (out-Select x) = search (rules, the_lemmas) in
    ap part_tree e ∙ select_roll (out-Select x)

-- the forms, and the layers of trees
pub ruleset by_form = (
  the_lemmas,
  tree-Name,
  tree-Whole,
  tree-Text,
  tree-Constant,
  tree-Struct,
  tree-Bag,
  tree-Unary,
  tree-Binary,
  tree-Divide,
  tree-Like,
  tree-Dot,
  tree-Brand,
  tree-Match,
  tree-If,
  tree-Quantified,
  tree-Select,
  named_is,
)
