-- How large the tree for a query is.
use Rattle.std.proofs.Common.{◌≡◌, ℕ, ◌+◌, ◌*◌, ◌≤◌, Bool, true, false, cond, List, [], ◌∷◌, map, arith}
use Rattle.std.specs.Prelude.{Option, Some, None, option_map, codes, sum, sum_by}
use Rattle.std.proofs.lemmas.List.Sums.{sum_by-cons}
use Rattle.qc_data.specs.declared.data.Datum.TheVariants as datum
use Rattle.qc_nra.specs.declared.tree.Nra.{Nra}
use Rattle.qc_nra.specs.declared.tree.Nra.TheVariants as tree
use Rattle.qc_nra.specs.Sizes.{size}
use Rattle.qc_ops.specs.declared.op.Unary.{Unary as OnOne}
use Rattle.qc_ops.specs.declared.op.Unary.TheVariants as one
use Rattle.qc_ops.specs.declared.op.Binary.TheVariants as two
use Rattle.qc_types.proofs.Inductions.{AllOf}
use Rattle.qc_oql_tree.specs.declared.pairing.Pairing.{Pairing}
use Rattle.qc_oql_tree.specs.declared.pairing.Pairing.TheVariants as pairing
use Rattle.qc_oql_tree.specs.declared.tree.Oql.{Oql}
use Rattle.qc_oql_tree.specs.declared.tree.Oql.TheOpen.{Oql-F, Filter-F, Key-F, Named-F, Order-F, Select-F}
use Rattle.qc_oql_tree.specs.declared.tree.Oql.TheViews.{roll-Oql, roll-Filter, roll-Key, roll-Named, roll-Order}
use Rattle.qc_oql_tree.specs.declared.tree.Oql.TheViews.{roll-Select}
use Rattle.qc_oql_tree.specs.declared.tree.Oql.TheFolds.{fold-roll-Oql, fold-roll-Filter, fold-roll-Key}
use Rattle.qc_oql_tree.specs.declared.tree.Oql.TheFolds.{fold-roll-Named, fold-roll-Order, fold-roll-Select, map-Oql}
use Rattle.qc_oql_tree.specs.declared.tree.Filter.{Filter}
use Rattle.qc_oql_tree.specs.declared.tree.Key.{Key}
use Rattle.qc_oql_tree.specs.declared.tree.Named.{Named}
use Rattle.qc_oql_tree.specs.declared.tree.Order.{Order}
use Rattle.qc_oql_tree.specs.declared.tree.Quantifier.{Quantifier}
use Rattle.qc_oql_tree.specs.declared.tree.Quantifier.TheVariants.{Exists, ForAll}
use Rattle.qc_oql_tree.specs.declared.tree.Query.{Query}
use Rattle.qc_oql_tree.specs.declared.tree.Select.{Select}
use Rattle.qc_oql_tree.specs.FormMeanings.{constant}
use Rattle.qc_oql_tree.specs.OperatorMeanings.{branding, division}
use Rattle.qc_oql_tree.specs.Sizes.{oql_node, filter_node, key_node, named_node, order_node, select_node, part}
use Rattle.qc_oql_tree.specs.Sizes.{filter_size, key_size, named_size, order_size, select_size, query_size}
use Rattle.qc_oql_tree.specs.Sizes.{size as oql_size}
use Rattle.qc_oql_tree.specs.inner.Pairings.{on_one, pairing_of}
use Rattle.qc_oql_nra.specs.OqlForms.{Translation, NamedTranslation, KeyTranslation, Scope, is_bound, binding}
use Rattle.qc_oql_nra.specs.OqlForms.{under, bound_tree, one_tree, two_tree, folded, struct_tree, field_before}
use Rattle.qc_oql_nra.specs.OqlForms.{bag_tree, decided_tree, at_row, joined_tree, rows_tree, with_sources}
use Rattle.qc_oql_nra.specs.OqlForms.{filtered_tree, key_fields, key_names, numeral, row_field, sorted_tree}
use Rattle.qc_oql_nra.specs.OqlForms.{ordered_tree, distinct_tree, select_tree}
use Rattle.qc_oql_nra.specs.OqlTrees as trees
use Rattle.qc_oql_nra.specs.OqlTrees.{oql_tree, filter_tree, key_tree, named_tree, order_tree, part_tree}
use Rattle.qc_oql_nra.specs.OqlTrees.{defined_tree, query_tree}
use Rattle.qc_oql_nra.proofs.NraSizes.{size-Const, size-Input, size-Env, size-Global, size-Unary, size-Binary}
use Rattle.qc_oql_nra.proofs.NraSizes.{size-Comp}
use Rattle.qc_oql_nra.proofs.NraSizes.{size-Map, size-Select, size-DepJoin, size-EnvComp, size-Either, size-If}
use Rattle.qc_oql_nra.proofs.OqlInduction.{OfSome, PartsHold, all_named, all_oql}
use Rattle.qc_oql_nra.proofs.OqlTreeForms.{select_roll}

-- ---- the trees of forms

small_name : (b : Bool) (name : List ℕ)
    → size (cond b (tree.Unary (one.Dot name) tree.Env) (tree.Global name)) ≤ 2
small_name true name = omega (arith, size-Unary (one.Dot name) tree.Env, size-Env)
small_name false name = omega (arith, size-Global name)

small_binding : (name : List ℕ) (a : Nra) → size (binding name a) ≡ 3 + size a
small_binding name a =
    omega (arith, size-Binary two.Cat tree.Env (tree.Unary (one.Rec name) a), size-Env, size-Unary (one.Rec name) a)

small_under : (name : List ℕ) (a : Nra) → size (under name a) ≡ 5 + size a
small_under name a =
    omega (arith, size-EnvComp a (binding name tree.Input), small_binding name tree.Input, size-Input)

small_at_row : (a : Nra) → size (at_row a) ≡ 2 + size a
small_at_row a = omega (arith, size-EnvComp a tree.Input, size-Input)

small_one : (o : Option OnOne) (a : Nra) → size (one_tree o a) ≤ 3 + size a
small_one None a =
    let equal = tree.Binary two.Eq a (tree.Const (datum.Coll [])) in
    omega (
      arith,
      size-Unary one.Not equal,
      size-Binary two.Eq a (tree.Const (datum.Coll [])),
      size-Const (datum.Coll []),
    )
small_one (Some op) a = omega (arith, size-Unary op a)

small_two : (o : Option Pairing) (a b : Nra) → size (two_tree o a b) ≤ 3 + (size a + size b)
small_two None a b =
    omega (arith, size-Comp (tree.Either tree.Input b) a, size-Either tree.Input b, size-Input)
small_two (Some (pairing.Plain op)) a b = omega (arith, size-Binary op a b)
small_two (Some (pairing.Exchanged op)) a b = omega (arith, size-Binary op b a)
small_two (Some pairing.Unequal) a b =
    omega (arith, size-Unary one.Not (tree.Binary two.Eq a b), size-Binary two.Eq a b)

small_decided : (q : Quantifier) (a : Nra) → size (decided_tree q a) ≤ 3 + size a
small_decided Exists a =
    omega (arith, size-Binary two.Member (tree.Const (datum.Bool true)) a, size-Const (datum.Bool true))
small_decided ForAll a =
    omega (
      arith,
      size-Unary one.Not (tree.Binary two.Member (tree.Const (datum.Bool false)) a),
      size-Binary two.Member (tree.Const (datum.Bool false)) a,
      size-Const (datum.Bool false),
    )

small_distinct : (b : Bool) (a : Nra) → size (distinct_tree b a) ≤ 1 + size a
small_distinct true a = omega (arith, size-Unary one.Distinct a)
small_distinct false a = omega arith

small_joined : (source : NamedTranslation) (s : Scope) (rows : Nra)
    → size (joined_tree source s rows) ≡ 6 + (size (source.1 s) + size rows)
small_joined source s rows =
    let wrap = tree.Unary (one.Rec source.0) tree.Input in
    omega (
      arith,
      size-DepJoin (tree.Map wrap (at_row (source.1 s))) rows,
      size-Map wrap (at_row (source.1 s)),
      size-Unary (one.Rec source.0) tree.Input,
      size-Input,
      small_at_row (source.1 s),
    )

small_sorted : (fields : List (List ℕ × Nra)) (names : List (List ℕ × Bool)) (rows : Nra)
    → size (sorted_tree fields names rows) ≡ 5 + (size (folded field_before fields row_field) + size rows)
small_sorted fields names rows =
    let row = tree.Unary (one.Dot (codes "row")) tree.Input in
    let keyed = folded field_before fields row_field in
    let pairs = tree.Map keyed rows in
    omega (
      arith,
      size-Map row (tree.Unary (one.Order names) pairs),
      size-Unary (one.Dot (codes "row")) tree.Input,
      size-Input,
      size-Unary (one.Order names) pairs,
      size-Map keyed rows,
    )

-- ---- the claims

-- an expression of a size
abbrev Fits : Translation → ℕ → Type 0
Fits t n = (s : Scope) → size (t s) + 4 ≤ 32 * n

-- the same of a part that is a node of its own
abbrev FitsPart : Translation → ℕ → Type 0
FitsPart t n = (s : Scope) → size (t s) + 36 ≤ 32 * n

-- an order, by the fields for its keys
abbrev FitsOrder : List KeyTranslation → ℕ → Type 0
FitsOrder ts n = (s : Scope) → size (folded field_before (key_fields 0 ts s) row_field) + 30 ≤ 32 * n

abbrev OfOql : Oql → Type 0
OfOql x = Fits (oql_tree x) (oql_size x)

abbrev OfFilter : Filter → Type 0
OfFilter x = FitsPart (filter_tree x) (filter_size x)

abbrev OfKey : Key → Type 0
OfKey x = FitsPart (key_tree x).0 (key_size x)

abbrev OfNamed : Named → Type 0
OfNamed x = FitsPart (named_tree x).1 (named_size x)

abbrev OfOrder : Order → Type 0
OfOrder x = FitsOrder (order_tree x) (order_size x)

abbrev OfSelect : Select → Type 0
OfSelect x = Fits (part_tree x) (1 + select_size x)

-- ---- lists of parts

fields_fit : (fs : List Named) → AllOf OfNamed fs → (s : Scope)
    → size (struct_tree (map named_tree fs) s) ≤ 1 + 32 * sum (map named_size fs)
fields_fit [] h s = omega (arith, size-Const (datum.Rec []))
fields_fit (f ∷ fs) h s =
    let rest = struct_tree (map named_tree fs) s in
    let field = tree.Unary (one.Rec (named_tree f).0) ((named_tree f).1 s) in
    let first = h.0 s in let later = fields_fit fs h.1 s in
    let all : sum (map named_size (f ∷ fs)) ≡ named_size f + sum (map named_size fs) =
    sum_by-cons (λ n. n) (named_size f) (map named_size fs) in
    omega (
      arith,
      first,
      later,
      all,
      size-Binary two.Cat field rest,
      size-Unary (one.Rec (named_tree f).0) ((named_tree f).1 s),
    )

members_fit : (xs : List Oql) → AllOf OfOql xs → (s : Scope)
    → size (bag_tree (map oql_tree xs) s) ≤ 1 + 32 * sum (map oql_size xs)
members_fit [] h s = omega (arith, size-Const (datum.Coll []))
members_fit (x ∷ xs) h s =
    let rest = bag_tree (map oql_tree xs) s in
    let single = tree.Unary one.Single (oql_tree x s) in
    let first = h.0 s in let later = members_fit xs h.1 s in
    let all : sum (map oql_size (x ∷ xs)) ≡ oql_size x + sum (map oql_size xs) =
    sum_by-cons (λ n. n) (oql_size x) (map oql_size xs) in
    omega (arith, first, later, all, size-Binary two.Union single rest, size-Unary one.Single (oql_tree x s))

keys_fit : (n : ℕ) (ks : List Key) → AllOf OfKey ks → (s : Scope)
    → size (folded field_before (key_fields n (map key_tree ks) s) row_field) ≤ 2 + 32 * sum (map key_size ks)
keys_fit n [] h s = omega (arith, size-Unary (one.Rec (codes "row")) tree.Input, size-Input)
keys_fit n (k ∷ ks) h s =
    let rest = folded field_before (key_fields (n + 1) (map key_tree ks) s) row_field in
    let value = at_row ((key_tree k).0 s) in
    let first = h.0 s in let later = keys_fit (n + 1) ks h.1 s in
    let all : sum (map key_size (k ∷ ks)) ≡ key_size k + sum (map key_size ks) =
    sum_by-cons (λ n. n) (key_size k) (map key_size ks) in
    omega (
      arith,
      first,
      later,
      all,
      size-Binary two.Cat (tree.Unary (one.Rec (numeral (n + 1))) value) rest,
      size-Unary (one.Rec (numeral (n + 1))) value,
      small_at_row ((key_tree k).0 s),
    )

rows_fit : (bs : List Named) → AllOf OfNamed bs → (s : Scope) (rows : Nra)
    → size (rows_tree (map named_tree bs) s rows) ≤ size rows + 32 * sum (map named_size bs)
rows_fit [] h s rows = omega arith
rows_fit (b ∷ bs) h s rows =
    let next = joined_tree (named_tree b) s rows in
    let first = h.0 s in let later = rows_fit bs h.1 ((named_tree b).0 ∷ s) next in
    let all : sum (map named_size (b ∷ bs)) ≡ named_size b + sum (map named_size bs) =
    sum_by-cons (λ n. n) (named_size b) (map named_size bs) in
    omega (arith, first, later, all, small_joined (named_tree b) s rows)

filter_fits : (f : Option Filter) → OfSome OfFilter f → (s : Scope) (rows : Nra)
    → size (filtered_tree (option_map filter_tree f) s rows) ≤ size rows + 32 * part (option_map filter_size f)
filter_fits None h s rows = omega arith
filter_fits (Some f) h s rows =
    let test = h s in
    omega (arith, test, size-Select (at_row (filter_tree f s)) rows, small_at_row (filter_tree f s))

order_fits : (o : Option Order) → OfSome OfOrder o → (s : Scope) (rows : Nra)
    → size (ordered_tree (option_map order_tree o) s rows) ≤ size rows + 32 * part (option_map order_size o)
order_fits None h s rows = omega arith
order_fits (Some o) h s rows =
    let fields = h s in
    let keys = order_tree o in
    omega (arith, fields, small_sorted (key_fields 0 keys s) (key_names 0 (map (λ key. key.1) keys)) rows)

-- ---- each type of the trees, at its outermost layer

abbrev tree_at : Oql-F Oql Filter Key Named Order Select → Translation
tree_at x =
    trees.form (map-Oql Oql Filter Key Named Order Select Translation Translation KeyTranslation NamedTranslation
    (List KeyTranslation) Translation oql_tree filter_tree key_tree named_tree order_tree part_tree x)

abbrev size_at : Oql-F Oql Filter Key Named Order Select → ℕ
size_at x =
    oql_node (map-Oql Oql Filter Key Named Order Select ℕ ℕ ℕ ℕ ℕ ℕ oql_size filter_size key_size named_size order_size
    select_size x)

layer : (x : Oql-F Oql Filter Key Named Order Select) → PartsHold OfOql OfFilter OfKey OfNamed OfOrder OfSelect x
    → Fits (tree_at x) (size_at x)
layer (Oql-F.Name at name) h s = let small = small_name (is_bound name s) name in omega (arith, small)
layer (Oql-F.Whole at n) h s = omega (arith, size-Const (datum.Int n))
layer (Oql-F.Text at text) h s = omega (arith, size-Const (datum.Text text))
layer (Oql-F.Constant at k) h s = let small = size-Const (constant k) in omega (arith, small)
layer (Oql-F.Struct at fs) h s = let small = fields_fit fs h s in omega (arith, small)
layer (Oql-F.Bag at xs) h s = let small = members_fit xs h s in omega (arith, small)
layer (Oql-F.Unary at op a) h s = let first = h s in omega (arith, first, small_one (on_one op) (oql_tree a s))
layer (Oql-F.Binary at op a b) h s =
    let first = h.0 s in let second = h.1 s in
    omega (arith, first, second, small_two (pairing_of op) (oql_tree a s) (oql_tree b s))
layer (Oql-F.Divide at d a k) h s = let first = h s in omega (arith, first, size-Unary (division d k) (oql_tree a s))
layer (Oql-F.Like at a pattern) h s =
    let first = h s in omega (arith, first, size-Unary (one.Like pattern) (oql_tree a s))
layer (Oql-F.Dot at a label) h s = let first = h s in omega (arith, first, size-Unary (one.Dot label) (oql_tree a s))
layer (Oql-F.Brand at b class a) h s =
    let first = h s in omega (arith, first, size-Unary (branding b class) (oql_tree a s))
layer (Oql-F.Match at a l r) h s =
    let left = bound_tree (named_tree l) s in let right = bound_tree (named_tree r) s in
    let first = h.0 s in let second = h.1 ((named_tree l).0 ∷ s) in let third = h.2 ((named_tree r).0 ∷ s) in
    omega (
      arith,
      first,
      second,
      third,
      size-Comp (tree.Either left right) (oql_tree a s),
      size-Either left right,
      small_under (named_tree l).0 ((named_tree l).1 ((named_tree l).0 ∷ s)),
      small_under (named_tree r).0 ((named_tree r).1 ((named_tree r).0 ∷ s)),
    )
layer (Oql-F.If at t a b) h s =
    let first = h.0 s in let second = h.1 s in let third = h.2 s in
    omega (arith, first, second, third, size-If (oql_tree t s) (oql_tree a s) (oql_tree b s))
layer (Oql-F.Quantified at q a t) h s =
    let name = (named_tree a).0 in
    let body = under name (oql_tree t (name ∷ s)) in
    let first = h.0 s in let second = h.1 (name ∷ s) in
    omega (
      arith,
      first,
      second,
      small_decided q (tree.Map body ((named_tree a).1 s)),
      size-Map body ((named_tree a).1 s),
      small_under name (oql_tree t (name ∷ s)),
    )
layer (Oql-F.Select at x) h s = h s

of_oql : (x : Oql-F Oql Filter Key Named Order Select) → PartsHold OfOql OfFilter OfKey OfNamed OfOrder OfSelect x
    → OfOql (roll-Oql x)
of_oql x h =
    let made : oql_tree (roll-Oql x) ≡ tree_at x =
    fold-roll-Oql Translation Translation KeyTranslation NamedTranslation (List KeyTranslation) Translation
    trees.form trees.filter_form trees.key_form trees.named_form trees.order_form trees.select_form x in
    let counted : oql_size (roll-Oql x) ≡ size_at x =
    fold-roll-Oql ℕ ℕ ℕ ℕ ℕ ℕ oql_node filter_node key_node named_node order_node select_node x in
    rw (made, counted) (layer x h)

of_filter : (x : Filter-F Oql Filter Key Named Order Select) → OfOql x.test → OfFilter (roll-Filter x)
of_filter x h =
    let made : filter_tree (roll-Filter x) ≡ oql_tree x.test =
    fold-roll-Filter Translation Translation KeyTranslation NamedTranslation (List KeyTranslation) Translation
    trees.form trees.filter_form trees.key_form trees.named_form trees.order_form trees.select_form x in
    let counted : filter_size (roll-Filter x) ≡ 1 + oql_size x.test =
    fold-roll-Filter ℕ ℕ ℕ ℕ ℕ ℕ oql_node filter_node key_node named_node order_node select_node x in
    rw (made, counted) (λ s. let test = h s in omega (arith, test))

of_key : (x : Key-F Oql Filter Key Named Order Select) → OfOql x.of → OfKey (roll-Key x)
of_key x h =
    let made : key_tree (roll-Key x) ≡ (oql_tree x.of, x.direction) =
    fold-roll-Key Translation Translation KeyTranslation NamedTranslation (List KeyTranslation) Translation
    trees.form trees.filter_form trees.key_form trees.named_form trees.order_form trees.select_form x in
    let counted : key_size (roll-Key x) ≡ 1 + oql_size x.of =
    fold-roll-Key ℕ ℕ ℕ ℕ ℕ ℕ oql_node filter_node key_node named_node order_node select_node x in
    rw (made, counted) (λ s. let value = h s in omega (arith, value))

of_named : (x : Named-F Oql Filter Key Named Order Select) → OfOql x.of → OfNamed (roll-Named x)
of_named x h =
    let made : named_tree (roll-Named x) ≡ (x.name, oql_tree x.of) =
    fold-roll-Named Translation Translation KeyTranslation NamedTranslation (List KeyTranslation) Translation
    trees.form trees.filter_form trees.key_form trees.named_form trees.order_form trees.select_form x in
    let counted : named_size (roll-Named x) ≡ 1 + oql_size x.of =
    fold-roll-Named ℕ ℕ ℕ ℕ ℕ ℕ oql_node filter_node key_node named_node order_node select_node x in
    rw (made, counted) (λ s. let value = h s in omega (arith, value))

of_order : (x : Order-F Oql Filter Key Named Order Select) → AllOf OfKey x.keys → OfOrder (roll-Order x)
of_order x h =
    let made : order_tree (roll-Order x) ≡ map key_tree x.keys =
    fold-roll-Order Translation Translation KeyTranslation NamedTranslation (List KeyTranslation) Translation
    trees.form trees.filter_form trees.key_form trees.named_form trees.order_form trees.select_form x in
    let counted : order_size (roll-Order x) ≡ 1 + sum (map key_size x.keys) =
    fold-roll-Order ℕ ℕ ℕ ℕ ℕ ℕ oql_node filter_node key_node named_node order_node select_node x in
    rw (made, counted) (λ s. let keys = keys_fit 0 x.keys h s in omega (arith, keys))

select_counted : (d : Bool) (v : Oql) (bs : List Named) (f : Option Filter) (o : Option Order)
    → select_size (roll-Select (record { distinct = d; value = v; sources = bs; filter = f; order = o }))
    ≡ oql_size v + (sum (map named_size bs) + (part (option_map filter_size f) + part (option_map order_size o)))
select_counted d v bs None None =
    fold-roll-Select ℕ ℕ ℕ ℕ ℕ ℕ oql_node filter_node key_node named_node order_node select_node
    (record { distinct = d; value = v; sources = bs; filter = None; order = None })
select_counted d v bs None (Some o) =
    fold-roll-Select ℕ ℕ ℕ ℕ ℕ ℕ oql_node filter_node key_node named_node order_node select_node
    (record { distinct = d; value = v; sources = bs; filter = None; order = Some o })
select_counted d v bs (Some f) None =
    fold-roll-Select ℕ ℕ ℕ ℕ ℕ ℕ oql_node filter_node key_node named_node order_node select_node
    (record { distinct = d; value = v; sources = bs; filter = Some f; order = None })
select_counted d v bs (Some f) (Some o) =
    fold-roll-Select ℕ ℕ ℕ ℕ ℕ ℕ oql_node filter_node key_node named_node order_node select_node
    (record { distinct = d; value = v; sources = bs; filter = Some f; order = Some o })

select_fits : (x : Select-F Oql Filter Key Named Order Select) → OfOql x.value → AllOf OfNamed x.sources
    → OfSome OfFilter x.filter → OfSome OfOrder x.order → (s : Scope)
    → size (select_tree x.distinct (oql_tree x.value) (map named_tree x.sources) (option_map filter_tree x.filter)
    (option_map order_tree x.order) s) + 4
    ≤ 32 * (1 + (oql_size x.value + (sum (map named_size x.sources)
    + (part (option_map filter_size x.filter) + part (option_map order_size x.order)))))
select_fits x h i j k s =
    let inner = with_sources (map named_tree x.sources) s in
    let start = tree.Unary one.Single tree.Env in
    let rows = rows_tree (map named_tree x.sources) s start in
    let few = filtered_tree (option_map filter_tree x.filter) inner rows in
    let ups = ordered_tree (option_map order_tree x.order) inner few in
    let values = tree.Map (at_row (oql_tree x.value inner)) ups in
    let value = h inner in
    let sources = rows_fit x.sources i s start in
    let kept = filter_fits x.filter j inner rows in
    let inorder = order_fits x.order k inner few in
    omega (
      arith,
      value,
      sources,
      kept,
      inorder,
      small_distinct x.distinct values,
      size-Map (at_row (oql_tree x.value inner)) ups,
      small_at_row (oql_tree x.value inner),
      size-Unary one.Single tree.Env,
      size-Env,
    )

of_select : (x : Select-F Oql Filter Key Named Order Select) → OfOql x.value → AllOf OfNamed x.sources
    → OfSome OfFilter x.filter → OfSome OfOrder x.order → OfSelect (roll-Select x)
of_select x h i j k =
    rw (select_roll x, select_counted x.distinct x.value x.sources x.filter x.order) (select_fits x h i j k)

-- ---- by induction

oql_fits : (x : Oql) → OfOql x
oql_fits = all_oql OfOql OfFilter OfKey OfNamed OfOrder OfSelect of_oql of_filter of_key of_named of_order of_select

named_fits : (x : Named) → OfNamed x
named_fits = all_named OfOql OfFilter OfKey OfNamed OfOrder OfSelect of_oql of_filter of_key of_named of_order of_select

defined_fits : (ds : List Named) (body : Oql) (s : Scope)
    → size (defined_tree (map named_tree ds) (oql_tree body) s) ≤ 32 * (sum_by named_size ds + oql_size body)
defined_fits [] body s = let small = oql_fits body s in omega (arith, small)
defined_fits (d ∷ ds) body s =
    let rest = defined_tree (map named_tree ds) (oql_tree body) ((named_tree d).0 ∷ s) in
    let first = named_fits d s in let later = defined_fits ds body ((named_tree d).0 ∷ s) in
    let all : sum_by named_size (d ∷ ds) ≡ named_size d + sum_by named_size ds =
    sum_by-cons named_size d ds in
    omega (
      arith,
      first,
      later,
      all,
      size-EnvComp rest (binding (named_tree d).0 ((named_tree d).1 s)),
      small_binding (named_tree d).0 ((named_tree d).1 s),
    )

-- at most 32 times as large as the query
pub query_fits : (q : Query) → size (query_tree q) ≤ 32 * query_size q
query_fits q = defined_fits q.defines q.body []
