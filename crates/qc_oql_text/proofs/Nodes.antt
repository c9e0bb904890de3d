-- The size of each form of a tree.
use Rattle.std.proofs.Common.{◌≡◌, ℕ, ◌+◌, List, rules, sym, ap, ◌∙◌}
use Rattle.std.proofs.lemmas.List.Sums.{sum-map}
use Rattle.std.specs.List.{sum_by}
use Rattle.std.specs.Prelude.{ℤ, Bool, Option, Some, None}
use Rattle.qc_oql_tree.specs.declared.tree.Oql.{Oql}
use Rattle.qc_oql_tree.specs.declared.tree.Oql.TheVariants as tree
use Rattle.qc_oql_tree.specs.declared.tree.Oql.TheOpen.{Oql-F, Select-F}
use Rattle.qc_oql_tree.specs.declared.tree.Oql.TheViews.{roll-Oql, roll-Select, the_lemmas}
use Rattle.qc_oql_tree.specs.declared.tree.Oql.TheFolds.{fold-roll-Oql, fold-roll-Filter, fold-roll-Key}
use Rattle.qc_oql_tree.specs.declared.tree.Oql.TheFolds.{fold-roll-Named, fold-roll-Order, fold-roll-Select, map-Oql}
use Rattle.qc_oql_tree.specs.declared.tree.Oql.TheFolds.{map-Select}
use Rattle.qc_oql_tree.specs.declared.tree.Filter.{Filter}
use Rattle.qc_oql_tree.specs.declared.tree.Key.{Key}
use Rattle.qc_oql_tree.specs.declared.tree.Named.{Named}
use Rattle.qc_oql_tree.specs.declared.tree.Order.{Order}
use Rattle.qc_oql_tree.specs.declared.tree.Select.{Select}
use Rattle.qc_oql_tree.specs.declared.tree.Binary.{Binary}
use Rattle.qc_oql_tree.specs.declared.tree.Branding.{Branding}
use Rattle.qc_oql_tree.specs.declared.tree.Constant.{Constant}
use Rattle.qc_oql_tree.specs.declared.tree.Direction.{Direction}
use Rattle.qc_oql_tree.specs.declared.tree.Division.{Division}
use Rattle.qc_oql_tree.specs.declared.tree.Quantifier.{Quantifier}
use Rattle.qc_oql_tree.specs.declared.tree.Unary.{Unary}
use Rattle.qc_oql_tree.specs.Trees.{named, select, filter, order, key}
use Rattle.qc_oql_tree.specs.Sizes.{oql_node, filter_node, key_node, named_node, order_node, select_node, size}
use Rattle.qc_oql_tree.specs.Sizes.{filter_size, key_size, named_size, order_size, select_size}

form : (x : Oql-F Oql Filter Key Named Order Select) (t : Oql) → roll-Oql x ≡ t
    → size t ≡ oql_node (map-Oql Oql Filter Key Named Order Select ℕ ℕ ℕ ℕ ℕ ℕ size filter_size key_size named_size
    order_size select_size x)
form x t e =
    ap size (sym e) ∙ fold-roll-Oql ℕ ℕ ℕ ℕ ℕ ℕ oql_node filter_node key_node named_node order_node select_node x

pub size-Name : (at : ℕ) (name : List ℕ) → size (tree.Name at name) ≡ 1
size-Name at name = form (Oql-F.Name at name) (tree.Name at name) (search (rules, the_lemmas))

pub size-Whole : (at : ℕ) (n : ℤ) → size (tree.Whole at n) ≡ 1
size-Whole at n = form (Oql-F.Whole at n) (tree.Whole at n) (search (rules, the_lemmas))

pub size-Text : (at : ℕ) (text : List ℕ) → size (tree.Text at text) ≡ 1
size-Text at text = form (Oql-F.Text at text) (tree.Text at text) (search (rules, the_lemmas))

pub size-Constant : (at : ℕ) (constant : Constant) → size (tree.Constant at constant) ≡ 1
size-Constant at constant = form (Oql-F.Constant at constant) (tree.Constant at constant) (search (rules, the_lemmas))

pub size-Struct : (at : ℕ) (fs : List Named) → size (tree.Struct at fs) ≡ 1 + sum_by named_size fs
size-Struct at fs =
    form (Oql-F.Struct at fs) (tree.Struct at fs) (search (rules, the_lemmas)) ∙ ap (λ n. 1 + n) (sum-map named_size fs)

pub size-Bag : (at : ℕ) (xs : List Oql) → size (tree.Bag at xs) ≡ 1 + sum_by size xs
size-Bag at xs =
    form (Oql-F.Bag at xs) (tree.Bag at xs) (search (rules, the_lemmas)) ∙ ap (λ n. 1 + n) (sum-map size xs)

pub size-Unary : (at : ℕ) (operator : Unary) (x : Oql) → size (tree.Unary at operator x) ≡ 1 + size x
size-Unary at operator x = form (Oql-F.Unary at operator x) (tree.Unary at operator x) (search (rules, the_lemmas))

pub size-Binary : (at : ℕ) (operator : Binary) (x y : Oql) → size (tree.Binary at operator x y) ≡ 1 + (size x + size y)
size-Binary at operator x y =
    form (Oql-F.Binary at operator x y) (tree.Binary at operator x y) (search (rules, the_lemmas))

pub size-Divide : (at : ℕ) (division : Division) (x : Oql) (k : ℤ) → size (tree.Divide at division x k) ≡ 1 + size x
size-Divide at division x k =
    form (Oql-F.Divide at division x k) (tree.Divide at division x k) (search (rules, the_lemmas))

pub size-Like : (at : ℕ) (x : Oql) (pattern : List ℕ) → size (tree.Like at x pattern) ≡ 1 + size x
size-Like at x pattern = form (Oql-F.Like at x pattern) (tree.Like at x pattern) (search (rules, the_lemmas))

pub size-Dot : (at : ℕ) (x : Oql) (label : List ℕ) → size (tree.Dot at x label) ≡ 1 + size x
size-Dot at x label = form (Oql-F.Dot at x label) (tree.Dot at x label) (search (rules, the_lemmas))

pub size-Brand : (at : ℕ) (branding : Branding) (class : List ℕ) (x : Oql)
    → size (tree.Brand at branding class x) ≡ 1 + size x
size-Brand at branding class x =
    form (Oql-F.Brand at branding class x) (tree.Brand at branding class x) (search (rules, the_lemmas))

pub size-Match : (at : ℕ) (x : Oql) (l r : Named)
    → size (tree.Match at x l r) ≡ 1 + (size x + (named_size l + named_size r))
size-Match at x l r = form (Oql-F.Match at x l r) (tree.Match at x l r) (search (rules, the_lemmas))

pub size-If : (at : ℕ) (x y z : Oql) → size (tree.If at x y z) ≡ 1 + (size x + (size y + size z))
size-If at x y z = form (Oql-F.If at x y z) (tree.If at x y z) (search (rules, the_lemmas))

pub size-Quantified : (at : ℕ) (quantifier : Quantifier) (b : Named) (x : Oql)
    → size (tree.Quantified at quantifier b x) ≡ 1 + (named_size b + size x)
size-Quantified at quantifier b x =
    form (Oql-F.Quantified at quantifier b x) (tree.Quantified at quantifier b x) (search (rules, the_lemmas))

pub size-Select : (at : ℕ) (s : Select) → size (tree.Select at s) ≡ 1 + select_size s
size-Select at s = form (Oql-F.Select at s) (tree.Select at s) (search (rules, the_lemmas))

pub size-named : (at : ℕ) (name : List ℕ) (x : Oql) → named_size (named at name x) ≡ 1 + size x
size-named at name x =
    fold-roll-Named ℕ ℕ ℕ ℕ ℕ ℕ oql_node filter_node key_node named_node order_node select_node
    (record { at = at; name = name; of = x })

pub size-filter : (at : ℕ) (x : Oql) → filter_size (filter at x) ≡ 1 + size x
size-filter at x =
    fold-roll-Filter ℕ ℕ ℕ ℕ ℕ ℕ oql_node filter_node key_node named_node order_node select_node
    (record { at = at; test = x })

pub size-key : (x : Oql) (d : Direction) → key_size (key x d) ≡ 1 + size x
size-key x d =
    fold-roll-Key ℕ ℕ ℕ ℕ ℕ ℕ oql_node filter_node key_node named_node order_node select_node
    (record { of = x; direction = d })

pub size-order : (at : ℕ) (ks : List Key) → order_size (order at ks) ≡ 1 + sum_by key_size ks
size-order at ks =
    fold-roll-Order ℕ ℕ ℕ ℕ ℕ ℕ oql_node filter_node key_node named_node order_node select_node
    (record { at = at; keys = ks }) ∙ ap (λ n. 1 + n) (sum-map key_size ks)

-- the size of a part that may be left out
abbrev pub option_size : {A : Type 0} → (A → ℕ) → Option A → ℕ
option_size f None = 0
option_size f (Some x) = f x

select_form : (r : Select-F Oql Filter Key Named Order Select)
    → select_size (roll-Select r) ≡ select_node
    (map-Select Oql Filter Key Named Order Select ℕ ℕ ℕ ℕ ℕ ℕ size filter_size key_size named_size order_size
    select_size r)
select_form r = fold-roll-Select ℕ ℕ ℕ ℕ ℕ ℕ oql_node filter_node key_node named_node order_node select_node r

pub size-select : (d : Bool) (x : Oql) (bs : List Named) (f : Option Filter) (o : Option Order)
    → select_size (select d x bs f o) ≡ size x +
    (sum_by named_size bs + (option_size filter_size f + option_size order_size o))
size-select d x bs None None = select_form _ ∙ ap (λ n. size x + (n + (0 + 0))) (sum-map named_size bs)
size-select d x bs None (Some o) = select_form _ ∙ ap (λ n. size x + (n + (0 + order_size o))) (sum-map named_size bs)
size-select d x bs (Some f) None = select_form _ ∙ ap (λ n. size x + (n + (filter_size f + 0))) (sum-map named_size bs)
size-select d x bs (Some f) (Some o) =
    select_form _ ∙ ap (λ n. size x + (n + (filter_size f + order_size o))) (sum-map named_size bs)
