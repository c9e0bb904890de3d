-- That each form of a query has names alone, by the same of its parts.
use Rattle.std.proofs.Common.{◌≡◌, ℕ, ℤ, Bool, true, false, ◌&&◌, List, map, pos, refl, rules, sym, ap, ◌∙◌, true≢false}
use Rattle.std.specs.Prelude.{Option, Some, None, option_map}
use Rattle.qc_containers.specs.Name.{is_name}
use Rattle.qc_data.specs.Facts.{all_true}
use Rattle.qc_oql_tree.specs.declared.tree.Oql.{Oql}
use Rattle.qc_oql_tree.specs.declared.tree.Oql.TheVariants as tree
use Rattle.qc_oql_tree.specs.declared.tree.Oql.TheOpen.{Oql-F, Select-F}
use Rattle.qc_oql_tree.specs.declared.tree.Oql.TheViews.{roll-Oql, roll-Select, out-Filter, out-Key, out-Named}
use Rattle.qc_oql_tree.specs.declared.tree.Oql.TheViews.{out-Order, out-Select, the_lemmas}
use Rattle.qc_oql_tree.specs.declared.tree.Oql.TheFolds.{fold-roll-Oql, fold-roll-Select, fold_out-Filter, fold_out-Key}
use Rattle.qc_oql_tree.specs.declared.tree.Oql.TheFolds.{fold_out-Named, fold_out-Order, map-Oql}
use Rattle.qc_oql_tree.specs.declared.tree.Filter.{Filter}
use Rattle.qc_oql_tree.specs.declared.tree.Key.{Key}
use Rattle.qc_oql_tree.specs.declared.tree.Named.{Named}
use Rattle.qc_oql_tree.specs.declared.tree.Order.{Order}
use Rattle.qc_oql_tree.specs.declared.tree.Select.{Select}
use Rattle.qc_oql_tree.specs.declared.tree.Binary.{Binary}
use Rattle.qc_oql_tree.specs.declared.tree.Branding.{Branding}
use Rattle.qc_oql_tree.specs.declared.tree.Division.{Division}
use Rattle.qc_oql_tree.specs.declared.tree.Quantifier.{Quantifier}
use Rattle.qc_oql_tree.specs.declared.tree.Unary.{Unary}
use Rattle.qc_oql_tree.specs.OperatorMeanings.{is_divisor}
use Rattle.qc_oql_nra.specs.HasNames.{part_names, oql_names, filter_names, key_names, named_names, order_names}
use Rattle.qc_oql_nra.specs.HasNames.{select_names, has_names, filter_has_names, key_has_names, named_has_names}
use Rattle.qc_oql_nra.specs.HasNames.{order_has_names, select_has_names}

layer : (x : Oql-F Oql Filter Key Named Order Select) (t : Oql) → roll-Oql x ≡ t
    → has_names t ≡ oql_names (map-Oql Oql Filter Key Named Order Select Bool Bool Bool Bool Bool Bool
    has_names filter_has_names key_has_names named_has_names order_has_names select_has_names x)
layer x t e =
    ap has_names (sym e) ∙ fold-roll-Oql Bool Bool Bool Bool Bool Bool
    oql_names filter_names key_names named_names order_names select_names x

pub names-Name : (at : ℕ) (name : List ℕ) → has_names (tree.Name at name) ≡ is_name name
names-Name at name = layer (Oql-F.Name at name) (tree.Name at name) (search (rules, the_lemmas))

pub names-Struct : (at : ℕ) (fields : List Named)
    → has_names (tree.Struct at fields) ≡ all_true (map named_has_names fields)
names-Struct at fields = layer (Oql-F.Struct at fields) (tree.Struct at fields) (search (rules, the_lemmas))

pub names-Bag : (at : ℕ) (members : List Oql) → has_names (tree.Bag at members) ≡ all_true (map has_names members)
names-Bag at members = layer (Oql-F.Bag at members) (tree.Bag at members) (search (rules, the_lemmas))

pub names-Unary : (at : ℕ) (op : Unary) (a : Oql) → has_names (tree.Unary at op a) ≡ has_names a
names-Unary at op a = layer (Oql-F.Unary at op a) (tree.Unary at op a) (search (rules, the_lemmas))

pub names-Binary : (at : ℕ) (op : Binary) (a b : Oql)
    → has_names (tree.Binary at op a b) ≡ (has_names a && has_names b)
names-Binary at op a b = layer (Oql-F.Binary at op a b) (tree.Binary at op a b) (search (rules, the_lemmas))

pub names-Divide : (at : ℕ) (d : Division) (a : Oql) (k : ℤ)
    → has_names (tree.Divide at d a k) ≡ (has_names a && is_divisor k)
names-Divide at d a k = layer (Oql-F.Divide at d a k) (tree.Divide at d a k) (search (rules, the_lemmas))

pub names-Like : (at : ℕ) (a : Oql) (pattern : List ℕ) → has_names (tree.Like at a pattern) ≡ has_names a
names-Like at a pattern = layer (Oql-F.Like at a pattern) (tree.Like at a pattern) (search (rules, the_lemmas))

pub names-Dot : (at : ℕ) (a : Oql) (label : List ℕ) → has_names (tree.Dot at a label) ≡ (has_names a && is_name label)
names-Dot at a label = layer (Oql-F.Dot at a label) (tree.Dot at a label) (search (rules, the_lemmas))

pub names-Brand : (at : ℕ) (b : Branding) (class : List ℕ) (a : Oql)
    → has_names (tree.Brand at b class a) ≡ (has_names a && is_name class)
names-Brand at b class a = layer (Oql-F.Brand at b class a) (tree.Brand at b class a) (search (rules, the_lemmas))

pub names-Match : (at : ℕ) (a : Oql) (l r : Named)
    → has_names (tree.Match at a l r) ≡ (has_names a && (named_has_names l && named_has_names r))
names-Match at a l r = layer (Oql-F.Match at a l r) (tree.Match at a l r) (search (rules, the_lemmas))

pub names-If : (at : ℕ) (test a b : Oql)
    → has_names (tree.If at test a b) ≡ (has_names test && (has_names a && has_names b))
names-If at test a b = layer (Oql-F.If at test a b) (tree.If at test a b) (search (rules, the_lemmas))

pub names-Quantified : (at : ℕ) (q : Quantifier) (source : Named) (test : Oql)
    → has_names (tree.Quantified at q source test) ≡ (named_has_names source && has_names test)
names-Quantified at q source test =
    layer (Oql-F.Quantified at q source test) (tree.Quantified at q source test) (search (rules, the_lemmas))

pub names-Select : (at : ℕ) (x : Select) → has_names (tree.Select at x) ≡ select_has_names x
names-Select at x = layer (Oql-F.Select at x) (tree.Select at x) (search (rules, the_lemmas))

-- ---- the structs of trees

pub names_beside : (n : Named) → named_has_names n ≡ (is_name (out-Named n).name && has_names (out-Named n).of)
names_beside n =
    fold_out-Named Bool Bool Bool Bool Bool Bool
    oql_names filter_names key_names named_names order_names select_names n

pub names_filter : (f : Filter) → filter_has_names f ≡ has_names (out-Filter f).test
names_filter f =
    fold_out-Filter Bool Bool Bool Bool Bool Bool
    oql_names filter_names key_names named_names order_names select_names f

pub names_key : (k : Key) → key_has_names k ≡ has_names (out-Key k).of
names_key k =
    fold_out-Key Bool Bool Bool Bool Bool Bool
    oql_names filter_names key_names named_names order_names select_names k

pub names_order : (o : Order) → order_has_names o ≡ all_true (map key_has_names (out-Order o).keys)
names_order o =
    fold_out-Order Bool Bool Bool Bool Bool Bool
    oql_names filter_names key_names named_names order_names select_names o

select_parts : (d : Bool) (v : Oql) (bs : List Named) (f : Option Filter) (o : Option Order)
    → select_has_names (roll-Select (record { distinct = d; value = v; sources = bs; filter = f; order = o }))
    ≡ (all_true (map named_has_names bs)
    && (part_names (option_map filter_has_names f) && (part_names (option_map order_has_names o) && has_names v)))
select_parts d v bs None None =
    fold-roll-Select Bool Bool Bool Bool Bool Bool
    oql_names filter_names key_names named_names order_names select_names
    (record { distinct = d; value = v; sources = bs; filter = None; order = None })
select_parts d v bs None (Some o) =
    fold-roll-Select Bool Bool Bool Bool Bool Bool
    oql_names filter_names key_names named_names order_names select_names
    (record { distinct = d; value = v; sources = bs; filter = None; order = Some o })
select_parts d v bs (Some f) None =
    fold-roll-Select Bool Bool Bool Bool Bool Bool
    oql_names filter_names key_names named_names order_names select_names
    (record { distinct = d; value = v; sources = bs; filter = Some f; order = None })
select_parts d v bs (Some f) (Some o) =
    fold-roll-Select Bool Bool Bool Bool Bool Bool
    oql_names filter_names key_names named_names order_names select_names
    (record { distinct = d; value = v; sources = bs; filter = Some f; order = Some o })

pub names_roll : (x : Select-F Oql Filter Key Named Order Select)
    → select_has_names (roll-Select x) ≡ (all_true (map named_has_names x.sources)
    && (part_names (option_map filter_has_names x.filter)
    && (part_names (option_map order_has_names x.order) && has_names x.value)))
names_roll x = select_parts x.distinct x.value x.sources x.filter x.order

pub names_select : (x : Select)
    → select_has_names x ≡ (all_true (map named_has_names (out-Select x).sources)
    && (part_names (option_map filter_has_names (out-Select x).filter)
    && (part_names (option_map order_has_names (out-Select x).order) && has_names (out-Select x).value)))
names_select x =
    let e : x ≡ roll-Select (out-Select x) = search (rules, the_lemmas) in
    ap select_has_names e ∙ names_roll (out-Select x)

-- ---- the parts of what is true

pub and_first : (a b : Bool) → (a && b) ≡ true → (a && b) ≡ a
and_first true b e = e
and_first false b e = refl

pub and_second : (a b : Bool) → (a && b) ≡ true → (a && b) ≡ b
and_second true b e = refl
and_second false b e = absurd (true≢false (sym e))

-- 0 is no divisor
pub no_divisor : (k : ℤ) → k ≡ pos 0 → is_divisor k ≡ false
no_divisor k e = ap is_divisor e

-- the forms, the layers of trees, and the parts of what is true
pub ruleset by_names = (
  the_lemmas,
  names-Name,
  names-Struct,
  names-Bag,
  names-Unary,
  names-Binary,
  names-Divide,
  names-Like,
  names-Dot,
  names-Brand,
  names-Match,
  names-If,
  names-Quantified,
  names-Select,
  names_beside,
  names_filter,
  names_key,
  names_order,
  names_select,
  and_first,
  and_second,
)
