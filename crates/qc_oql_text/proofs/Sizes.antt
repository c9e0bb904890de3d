-- A query has at most one node for each token.
use Rattle.std.proofs.Common.{◌≤◌, ℕ, suc, ◌+◌, List, [], ◌∷◌, ◌++◌, length, arith}
use Rattle.std.proofs.lemmas.List.Sums.{sum_by-append}
use Rattle.std.specs.List.{sum_by}
use Rattle.std.specs.Prelude.{ℤ, Bool, Option, Result, Ok, Err, IfOk}
use Rattle.std.proofs.lemmas.List.{length-map}
use Rattle.qc_grammar.specs.declared.fault.SyntaxFault.{SyntaxFault}
use Rattle.qc_grammar.specs.Parsing.{Parses}
use Rattle.qc_lex.specs.declared.token.Placed.{Placed}
use Rattle.qc_lex.specs.Words.{lexemes}
use Rattle.qc_lex.specs.declared.token.Lexeme.{Lexeme}
use Rattle.qc_oql_tree.specs.declared.tree.Binary.{Binary}
use Rattle.qc_oql_tree.specs.declared.tree.Direction.{Direction}
use Rattle.qc_oql_tree.specs.declared.tree.Filter.{Filter}
use Rattle.qc_oql_tree.specs.declared.tree.Key.{Key}
use Rattle.qc_oql_tree.specs.declared.tree.Named.{Named}
use Rattle.qc_oql_tree.specs.declared.tree.Oql.{Oql}
use Rattle.qc_oql_tree.specs.declared.tree.Oql.TheVariants as tree
use Rattle.qc_oql_tree.specs.declared.tree.Order.{Order}
use Rattle.qc_oql_tree.specs.declared.tree.Quantifier.TheVariants as quantifier
use Rattle.qc_oql_tree.specs.declared.tree.Query as queries
use Rattle.qc_oql_tree.specs.declared.tree.Select.{Select}
use Rattle.qc_oql_tree.specs.Grammar as rel
use Rattle.qc_oql_tree.specs.Lexemes.{whole, content, lexeme_at}
use Rattle.qc_oql_tree.specs.OperatorTokens.{constant_of, unary_of, binary_of, division_of, branding_of}
use Rattle.qc_oql_tree.specs.Sizes.{size, filter_size, key_size, named_size, order_size, select_size, query_size}
use Rattle.qc_oql_tree.specs.Trees.{named}
use Rattle.qc_oql_text.proofs.Nodes.{option_size, size-Name, size-Whole, size-Text, size-Constant, size-Struct}
use Rattle.qc_oql_text.proofs.Nodes.{size-Bag, size-Unary, size-Binary}
use Rattle.qc_oql_text.proofs.Nodes.{size-Divide, size-Like, size-Dot, size-Brand, size-Match, size-If, size-Quantified}
use Rattle.qc_oql_text.proofs.Nodes.{size-Select, size-named}
use Rattle.qc_oql_text.proofs.Nodes.{size-filter, size-key, size-order, size-select}

-- an operator between its operands
binary : (i j k : ℕ) (o : Binary) (x y : Oql) → i + size x ≤ j → suc j + size y ≤ k → i + size (tree.Binary j o x y) ≤ k
binary i j k o x y a b = omega (arith, a, b, size-Binary j o x y)

-- a name and what is between it and its expression
entry : (i j n at : ℕ) (name : List ℕ) (x : Oql) → suc i ≤ n → n + size x ≤ j → i + named_size (named at name x) ≤ j
entry i j n at name x l a = omega (arith, l, a, size-named at name x)

-- one more of a list, behind a token
one_more : {A : Type 0} (f : A → ℕ) (i j k : ℕ) (xs : List A) (x : A) → i + sum_by f xs ≤ j → j + f x ≤ k
    → i + sum_by f (xs ++ x ∷ []) ≤ k
one_more f i j k xs x a b = omega (arith, a, b, sum_by-append f xs (x ∷ []))

module _ (ts : List Lexeme) where
  sized_directed : {i j : ℕ} {d : Direction} → rel.Directed ts i j d → i ≤ j
  sized_directed (rel.ascending e) = omega arith
  sized_directed (rel.descending e) = omega arith
  sized_directed rel.undirected = omega arith

  sized_divisor : {i j : ℕ} {n : ℤ} → rel.Divisor ts i j n → i ≤ j
  sized_divisor (rel.negative e f) = omega arith
  sized_divisor (rel.positive e) = omega arith

  mutual
    sized_expr : {i j : ℕ} {x : Oql} → rel.Expr ts i j x → i + size x ≤ j
    sized_expr {i = i} (rel.selected {x = x} e f) = let a = sized_selection f in omega (arith, a, size-Select i x)
    sized_expr (rel.value f) = sized_q f

    sized_selection : {i j : ℕ} {x : Select} → rel.Selection ts i j x → i + select_size x ≤ j
    sized_selection (rel.selection {d = d} {x = x} {bs = bs} {f = f} {o = o} p e b w r) =
        let h = sized_projection p in
        let k = sized_bindings b in
        let l = sized_filtered w in
        let m = sized_ordered r in
        omega (arith, h, k, l, m, size-select d x bs f o)

    sized_projection : {i j : ℕ} {d : Bool} {x : Oql} → rel.Projection ts i j d x → i + size x ≤ j
    sized_projection (rel.distinct e f) = let a = sized_q f in omega (arith, a)
    sized_projection (rel.all a f) = sized_q f

    sized_bindings : {i j : ℕ} {bs : List Named} → rel.Bindings ts i j bs → i + sum_by named_size bs ≤ j
    sized_bindings (rel.one_binding f) = let a = sized_binding f in omega (arith, a)
    sized_bindings {i = i} {j = k} (rel.more_bindings {j = j} {bs = bs} {b = b} f e g) =
        let a = sized_bindings f in let c = sized_binding g in one_more named_size i j k bs b a (omega (arith, c))

    sized_binding : {i j : ℕ} {b : Named} → rel.Binding ts i j b → i + named_size b ≤ j
    sized_binding {i = i} {j = j} (rel.binding {x = x} e f g) =
        entry i j (suc (suc i)) i (rel.text_at ts i) x (omega arith) (sized_q g)

    sized_filtered : {i j : ℕ} {f : Option Filter} → rel.Filtered ts i j f → i + option_size filter_size f ≤ j
    sized_filtered {i = i} (rel.filtered {x = x} e f) = let a = sized_q f in omega (arith, a, size-filter i x)
    sized_filtered rel.unfiltered = omega arith

    sized_ordered : {i j : ℕ} {o : Option Order} → rel.Ordered ts i j o → i + option_size order_size o ≤ j
    sized_ordered {i = i} (rel.ordered {ks = ks} e f g) = let a = sized_keys g in omega (arith, a, size-order i ks)
    sized_ordered rel.unordered = omega arith

    -- a key may have no token of its own, and the word before it is left for it
    sized_keys : {i j : ℕ} {ks : List Key} → rel.Keys ts i j ks → i + sum_by key_size ks ≤ suc j
    sized_keys (rel.one_key f) = let a = sized_key f in omega (arith, a)
    sized_keys {i = i} {j = l} (rel.more_keys {j = j} {ks = ks} {k = k} f e g) =
        let a = sized_keys f in let c = sized_key g in one_more key_size i (suc j) (suc l) ks k a c

    sized_key : {i j : ℕ} {k : Key} → rel.SortKey ts i j k → i + key_size k ≤ suc j
    sized_key (rel.sort_key {x = x} {d = d} f g) =
        let a = sized_q f in let b = sized_directed g in omega (arith, a, b, size-key x d)

    sized_q : {i j : ℕ} {x : Oql} → rel.Q ts i j x → i + size x ≤ j
    sized_q {i = i} (rel.if_else {x = x} {y = y} {z = z} e f g h k l) =
        let a = sized_q f in let b = sized_q h in let c = sized_q l in omega (arith, a, b, c, size-If i x y z)
    sized_q {i = i} (rel.exists {b = b} {x = x} e f g h) =
        let a = sized_binding f in let c = sized_q h in omega (arith, a, c, size-Quantified i quantifier.Exists b x)
    sized_q {i = i} (rel.for_all {b = b} {x = x} e d f g h) =
        let a = sized_binding f in let c = sized_q h in omega (arith, a, c, size-Quantified i quantifier.ForAll b x)
    sized_q (rel.simple f) = sized_or f

    sized_or : {i j : ℕ} {x : Oql} → rel.Or ts i j x → i + size x ≤ j
    sized_or {i = i} {j = k} (rel.or {j = j} {x = x} {y = y} f e g) =
        binary i j k (binary_of (rel.kind_at ts j)) x y (sized_or f) (sized_and g)
    sized_or (rel.one_or f) = sized_and f

    sized_and : {i j : ℕ} {x : Oql} → rel.And ts i j x → i + size x ≤ j
    sized_and {i = i} {j = k} (rel.and {j = j} {x = x} {y = y} f e g) =
        binary i j k (binary_of (rel.kind_at ts j)) x y (sized_and f) (sized_not g)
    sized_and (rel.one_and f) = sized_not f

    sized_not : {i j : ℕ} {x : Oql} → rel.Not ts i j x → i + size x ≤ j
    sized_not {i = i} (rel.not {x = x} e f) =
        let a = sized_not f in omega (arith, a, size-Unary i (unary_of (rel.kind_at ts i)) x)
    sized_not (rel.test f) = sized_rel f

    sized_rel : {i j : ℕ} {x : Oql} → rel.Rel ts i j x → i + size x ≤ j
    sized_rel {i = i} {j = k} (rel.compared {j = j} {x = x} {y = y} f e g) =
        binary i j k (binary_of (rel.kind_at ts j)) x y (sized_sets f) (sized_sets g)
    sized_rel (rel.like {j = j} {x = x} f e g) =
        let a = sized_sets f in omega (arith, a, size-Like j x (content (lexeme_at ts (suc j))))
    sized_rel (rel.untested f) = sized_sets f

    sized_sets : {i j : ℕ} {x : Oql} → rel.Sets ts i j x → i + size x ≤ j
    sized_sets {i = i} {j = k} (rel.sets {j = j} {x = x} {y = y} f e g) =
        binary i j k (binary_of (rel.kind_at ts j)) x y (sized_sets f) (sized_sum g)
    sized_sets (rel.one_set f) = sized_sum f

    sized_sum : {i j : ℕ} {x : Oql} → rel.Sum ts i j x → i + size x ≤ j
    sized_sum {i = i} {j = k} (rel.sum {j = j} {x = x} {y = y} f e g) =
        binary i j k (binary_of (rel.kind_at ts j)) x y (sized_sum f) (sized_product g)
    sized_sum (rel.one_summand f) = sized_product f

    sized_product : {i j : ℕ} {x : Oql} → rel.Product ts i j x → i + size x ≤ j
    sized_product {i = i} {j = k} (rel.times {j = j} {x = x} {y = y} f e g) =
        binary i j k (binary_of (rel.kind_at ts j)) x y (sized_product f) (sized_neg g)
    sized_product (rel.divided {j = j} {x = x} {n = n} f e g) =
        let a = sized_product f in let b = sized_divisor g in
        omega (arith, a, b, size-Divide j (division_of (rel.kind_at ts j)) x n)
    sized_product (rel.one_factor f) = sized_neg f

    sized_neg : {i j : ℕ} {x : Oql} → rel.Neg ts i j x → i + size x ≤ j
    sized_neg {i = i} (rel.neg {x = x} e f) =
        let a = sized_neg f in omega (arith, a, size-Unary i (unary_of (rel.kind_at ts i)) x)
    sized_neg (rel.unsigned f) = sized_path f

    sized_path : {i j : ℕ} {x : Oql} → rel.Path ts i j x → i + size x ≤ j
    sized_path (rel.dot {j = j} {x = x} f e c) =
        let a = sized_path f in omega (arith, a, size-Dot (suc j) x (rel.text_at ts (suc j)))
    sized_path (rel.one_atom f) = sized_atom f

    sized_atom : {i j : ℕ} {x : Oql} → rel.Atom ts i j x → i + size x ≤ j
    sized_atom {i = i} (rel.number c) = omega (arith, size-Whole i (whole (lexeme_at ts i)))
    sized_atom {i = i} (rel.text e) = omega (arith, size-Text i (content (lexeme_at ts i)))
    sized_atom {i = i} (rel.constant c) = omega (arith, size-Constant i (constant_of (rel.kind_at ts i)))
    sized_atom {i = i} (rel.name e) = omega (arith, size-Name i (rel.text_at ts i))
    sized_atom (rel.parens e f c) = let a = sized_expr f in omega (arith, a)
    sized_atom {i = i} (rel.struct {fs = fs} e o f c) = let a = sized_fields f in omega (arith, a, size-Struct i fs)
    sized_atom {i = i} (rel.bag {xs = xs} e o f c) = let a = sized_members f in omega (arith, a, size-Bag i xs)
    sized_atom {i = i} (rel.call {x = x} c o f e) =
        let a = sized_expr f in omega (arith, a, size-Unary i (unary_of (rel.kind_at ts i)) x)
    sized_atom {i = i} (rel.call_two {x = x} {y = y} c o f m g e) =
        let a = sized_q f in let b = sized_q g in omega (arith, a, b, size-Binary i (binary_of (rel.kind_at ts i)) x y)
    sized_atom {i = i} (rel.brand {x = x} c o n m f e) =
        let a = sized_expr f in omega (
          arith,
          a,
          size-Brand i (branding_of (rel.kind_at ts i)) (rel.text_at ts (suc (suc i))) x,
        )
    sized_atom {i = i} (rel.match {x = x} {left = l} {right = r} e o f m g k h c) =
        let a = sized_q f in let b = sized_case g in let d = sized_case h in omega (arith, a, b, d, size-Match i x l r)

    sized_fields : {i j : ℕ} {fs : List Named} → rel.Fields ts i j fs → i + sum_by named_size fs ≤ j
    sized_fields rel.no_fields = omega arith
    sized_fields (rel.fields f) = sized_some_fields f

    sized_some_fields : {i j : ℕ} {fs : List Named} → rel.SomeFields ts i j fs → i + sum_by named_size fs ≤ j
    sized_some_fields (rel.one_field f) = let a = sized_field f in omega (arith, a)
    sized_some_fields {i = i} {j = k} (rel.more_fields {j = j} {fs = fs} {f = n} f e g) =
        let a = sized_some_fields f in let c = sized_field g in one_more named_size i j k fs n a (omega (arith, c))

    sized_field : {i j : ℕ} {f : Named} → rel.Field ts i j f → i + named_size f ≤ j
    sized_field {i = i} {j = j} (rel.field {x = x} c e f) =
        entry i j (suc (suc i)) i (rel.text_at ts i) x (omega arith) (sized_q f)

    sized_members : {i j : ℕ} {xs : List Oql} → rel.Members ts i j xs → i + sum_by size xs ≤ j
    sized_members rel.no_members = omega arith
    sized_members (rel.members f) = sized_some_members f

    sized_some_members : {i j : ℕ} {xs : List Oql} → rel.SomeMembers ts i j xs → i + sum_by size xs ≤ j
    sized_some_members (rel.one_member f) = let a = sized_q f in omega (arith, a)
    sized_some_members {i = i} {j = k} (rel.more_members {j = j} {xs = xs} {x = x} f e g) =
        let a = sized_some_members f in let c = sized_q g in one_more size i j k xs x a (omega (arith, c))

    sized_case : {side i j : ℕ} {b : Named} → rel.Case ts side i j b → i + named_size b ≤ j
    sized_case {i = i} {j = j} (rel.case {x = x} l n c f) =
        entry i j (suc (suc (suc i))) (suc i) (rel.text_at ts (suc i)) x (omega arith) (sized_q f)

  sized_defines : {i j : ℕ} {ds : List Named} → rel.Defines ts i j ds → i + sum_by named_size ds ≤ j
  sized_defines rel.no_define = omega arith
  sized_defines {i = i} (rel.more_defines {j = j} {k = k} {ds = ds} {x = x} f d n a g e) =
      let b = sized_defines f in
      let c = entry j (suc k) (suc (suc (suc j))) (suc j) (rel.text_at ts (suc j)) x (omega arith)
      (let h = sized_expr g in omega (arith, h)) in
      one_more named_size i j (suc k) ds (named (suc j) (rel.text_at ts (suc j)) x) b c

  sized_ending : {i j : ℕ} → rel.Ending ts i j → i ≤ j
  sized_ending (rel.ended e) = omega arith
  sized_ending rel.unended = omega arith

  -- at most one node for each token
  pub sized_query : (q : queries.Query) → rel.Query ts q → query_size q ≤ length ts
  sized_query q (rel.query f g e) =
      let a = sized_defines f in let b = sized_expr g in let c = sized_ending e in omega (arith, a, b, c)

-- and so of a scan
pub small : (ws : List Placed) (r : Result queries.Query SyntaxFault) → Parses rel.Query (lexemes ws) r
    → IfOk r (λ query. query_size query ≤ length ws)
small ws (Ok query) p =
    let a = sized_query (lexemes ws) query p.spells in omega (arith, a, length-map ws (λ w. w.lexeme))
small ws (Err fault) p = tt
