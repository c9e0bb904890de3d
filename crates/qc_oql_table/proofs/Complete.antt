-- Each word of the grammar is a word of the table, whose actions make its tree.
use Rattle.std.proofs.Common.{◌≡◌, ◌⊎◌, inl, inr, ℕ, zero, suc, Bool, true, false, List, [], ◌∷◌, ◌++◌, map, refl}
use Rattle.std.proofs.Common.{sym, ap, ◌∙◌, subst, eqb, slice_get, Some, None}
use Rattle.std.specs.Prelude.{ℤ, Option}
use Rattle.std.proofs.lemmas.Bool.{eqb-true, eq-eqb}
use Rattle.qc_grammar.specs.declared.symbol.Symbol.{Symbol}
use Rattle.qc_grammar.specs.declared.symbol.Symbol.TheVariants.{Token, Rule, Action}
use Rattle.qc_grammar.specs.inner.Derivations.{Produces, alternatives}
use Rattle.qc_oql_tree.specs.TokenKinds.{among}
use Rattle.qc_lex.specs.declared.token.Lexeme.{Lexeme}
use Rattle.qc_oql_tree.specs.declared.tree.Filter.{Filter}
use Rattle.qc_oql_tree.specs.declared.tree.Key.{Key}
use Rattle.qc_oql_tree.specs.declared.tree.Named.{Named}
use Rattle.qc_oql_tree.specs.declared.tree.Oql.{Oql}
use Rattle.qc_oql_tree.specs.declared.tree.Oql.TheVariants as tree
use Rattle.qc_oql_tree.specs.declared.tree.Order.{Order}
use Rattle.qc_oql_tree.specs.declared.tree.Select.{Select}
use Rattle.qc_oql_tree.specs.declared.tree.Direction.{Direction}
use Rattle.qc_oql_tree.specs.Grammar as rel
use Rattle.qc_oql_tree.specs.Trees as trees
use Rattle.qc_oql_tree.specs.TokenKinds.{NAME, DISTINCT, FROM, EXISTS, NOT, MINUS, TEXT, OPEN, CLOSE, STRUCT, BAG}
use Rattle.qc_oql_tree.specs.TokenKinds.{MATCH, WHOLES, CONSTANTS, SETS, SUMS, DIVISIONS, TESTS, UNARIES, BINARIES}
use Rattle.qc_oql_tree.specs.TokenKinds.{BRANDINGS, LABELS}
use Rattle.qc_oql_tree.specs.Lexemes.{kind}
use Rattle.qc_oql_tree.specs.OperatorTokens.{unary_of}
use Rattle.qc_oql_table.specs.declared.value.Mark.{Mark}
use Rattle.qc_oql_table.specs.declared.value.Value.TheVariants as value
use Rattle.qc_oql_table.specs.Actions as actions
use Rattle.qc_oql_table.specs.Actions.{act}
use Rattle.qc_oql_table.specs.Table as table
use Rattle.qc_oql_table.specs.Table.{grammar}
use Rattle.qc_oql_table.specs.Values.{Values}
use Rattle.qc_grammar.proofs.Walks as walks
use Rattle.qc_grammar.proofs.Walks.{Walks, done, here, acts, goes}
use Rattle.qc_oql_table.proofs.Words.{single, PLAIN_UNARIES}

-- a level of operators stands in the table as it is, for what doesn't begin with `exists`, and with neither this nor
-- `distinct`
data Copy : Type 0 where
  full : Copy
  but_exists : Copy
  but_both : Copy

-- the rule of a level
abbrev three : ℕ → ℕ → ℕ → Copy → ℕ
three a b c full = a
three a b c but_exists = b
three a b c but_both = c

abbrev and_of : Copy → ℕ
and_of = three table.rule_and table.rule_and_but_exists table.rule_and_but_both

abbrev not_of : Copy → ℕ
not_of = three table.rule_not table.rule_not_but_exists table.rule_not_but_both

abbrev rel_of : Copy → ℕ
rel_of = three table.rule_rel table.rule_rel_but_exists table.rule_rel_but_both

abbrev sets_of : Copy → ℕ
sets_of = three table.rule_sets table.rule_sets_but_exists table.rule_sets_but_both

abbrev sum_of : Copy → ℕ
sum_of = three table.rule_sum table.rule_sum_but_exists table.rule_sum_but_both

abbrev product_of : Copy → ℕ
product_of = three table.rule_product table.rule_product_but_exists table.rule_product_but_both

abbrev neg_of : Copy → ℕ
neg_of = three table.rule_neg table.rule_neg_but_exists table.rule_neg_but_both

abbrev path_of : Copy → ℕ
path_of = three table.rule_path table.rule_path_but_exists table.rule_path_but_both

abbrev atom_of : Copy → ℕ
atom_of = three table.rule_atom table.rule_atom_but_exists table.rule_atom_but_both

-- what follows a call of `exists` at a level
abbrev path_tails : List Symbol
path_tails = Rule table.rule_path_tail ∷ []

abbrev product_tails : List Symbol
product_tails = path_tails ++ Rule table.rule_product_tail ∷ []

abbrev sum_tails : List Symbol
sum_tails = product_tails ++ Rule table.rule_sum_tail ∷ []

abbrev sets_tails : List Symbol
sets_tails = sum_tails ++ Rule table.rule_sets_tail ∷ []

abbrev rel_tails : List Symbol
rel_tails = sets_tails ++ Rule table.rule_rel_tail ∷ []

abbrev and_tails : List Symbol
and_tails = rel_tails ++ Rule table.rule_and_tail ∷ []

-- an alternative that each copy of a level has
abbrev Each : (Copy → ℕ) → (Copy → List Symbol) → Type 0
Each n body = (c : Copy) → Produces grammar (n c) (body c)

each : (n : Copy → ℕ) (body : Copy → List Symbol) → Produces grammar (n full) (body full)
    → Produces grammar (n but_exists) (body but_exists) → Produces grammar (n but_both) (body but_both) → Each n body
each n body a b c full = a
each n body a b c but_exists = b
each n body a b c but_both = c

-- one token is not of two kinds
apart : (K : List ℕ) (i a b : ℕ) → eqb a b ≡ false → slice_get K i ≡ Some a → slice_get K i ≡ Some b → ⊥
apart K i a b e f g =
    let q : a ≡ b = cc in
    let t : eqb a b ≡ true = eq-eqb a b q in
    let c : true ≡ false = sym t ∙ e in
    cc

same_or_not : (a b : ℕ) (t : Bool) → eqb a b ≡ t → (Some a ≡ Some b) ⊎ (Some a ≡ Some b → ⊥)
same_or_not a b true e = inl (ap (λ n. Some n) (eqb-true a b e))
same_or_not a b false e =
    inr (λ h. (let q : a ≡ b = cc in let t : eqb a b ≡ true = eq-eqb a b q in let c : true ≡ false = sym t ∙ e in cc))

some_or_not : (o : Option ℕ) (k : ℕ) → (o ≡ Some k) ⊎ (o ≡ Some k → ⊥)
some_or_not None k = inr (λ h. cc)
some_or_not (Some a) k = same_or_not a k (eqb a k) refl

found_by : (ks : List ℕ) (k x : ℕ) (b : Bool) → eqb k x ≡ b
    → (among k ks ≡ true → (p : ℕ) × (slice_get (map single ks) p ≡ Some (single k))) → among k (x ∷ ks) ≡ true
    → (p : ℕ) × (slice_get (map single (x ∷ ks)) p ≡ Some (single k))
found_by ks k x true e f m = (zero, ap (λ z. Some (single z)) (sym (eqb-true k x e)))
found_by ks k x false e f m = (let r = f (let q : among k ks ≡ true = cc in q) in (suc r.0, r.1))

-- the alternative of a token in a rule of a class
found : (ks : List ℕ) (k : ℕ) → among k ks ≡ true → (p : ℕ) × (slice_get (map single ks) p ≡ Some (single k))
found [] k h = cc
found (x ∷ ks) k h = found_by ks k x (eqb k x) refl (found ks k) h

-- a function of one operand is `exists`, `distinct` or another one
which_by : (k : ℕ) (a b : Bool) → eqb k EXISTS ≡ a → eqb k DISTINCT ≡ b → among k UNARIES ≡ true
    → (k ≡ EXISTS) ⊎ ((k ≡ DISTINCT) ⊎ (among k PLAIN_UNARIES ≡ true))
which_by k true b e f m = inl (eqb-true k EXISTS e)
which_by k false true e f m = inr (inl (eqb-true k DISTINCT f))
which_by k false false e f m = inr (inr (let h = rw e at m in let l = rw f at h in l))

module _ (ts : List Lexeme) where
  abbrev K : List ℕ
  K = map kind ts

  abbrev W : ℕ → List Symbol → Values → ℕ → Values → Type 0
  W i σ s j t = Walks grammar K (act ts) i σ s j t

  -- the symbols put the tree on the stack
  abbrev Yields : ℕ → List Symbol → ℕ → Oql → Type 0
  Yields i σ j x = (s : Values) → W i σ s j (value.Tree x ∷ s)

  -- they make it of the one on top
  abbrev More : ℕ → Oql → List Symbol → ℕ → Oql → Type 0
  More i x σ j y = (s : Values) → W i σ (value.Tree x ∷ s) j (value.Tree y ∷ s)

  -- one behind another
  chain : {i m j : ℕ} {σ τ : List Symbol} {s r t : Values} → W i σ s m r → W m τ r j t → W i (σ ++ τ) s j t
  chain {i = i} {m = m} {j = j} {σ = σ} {τ = τ} {s = s} {r = r} {t = t} w v =
      walks.both grammar K (act ts) i m j σ τ s r t w v

  then : {i m j n : ℕ} {σ : List Symbol} {s r t : Values} → W i (Rule n ∷ []) s m r → W m σ r j t
      → W i (Rule n ∷ σ) s j t
  then {i = i} {m = m} {j = j} {n = n} {σ = σ} {s = s} {r = r} {t = t} w v =
      walks.both grammar K (act ts) i m j (Rule n ∷ []) σ s r t w v

  -- by the alternative of this number
  by : {i j n : ℕ} {body : List Symbol} {s t : Values} (p : ℕ) → slice_get (alternatives grammar n) p ≡ Some body
      → W i body s j t → W i (Rule n ∷ []) s j t
  by p e w = goes (record { number = p; found = e }) w done

  -- by a rule of a class
  classed : {i : ℕ} {s : Values} (n : ℕ) (ks : List ℕ) → alternatives grammar n ≡ map single ks → rel.Among ts i ks
      → W i (Rule n ∷ []) s (suc i) s
  classed n ks e c =
      let r = found ks c.0 c.2 in
      goes (record { number = r.0; found = subst (λ z. slice_get z r.0 ≡ Some (single c.0)) (sym e) r.1 })
      (here c.1 done) done

  -- where a copy is allowed
  abbrev Allowed : Copy → ℕ → Type 0
  Allowed full i = Unit {0}
  Allowed but_exists i = rel.Is ts i EXISTS → ⊥
  Allowed but_both i = (rel.Is ts i EXISTS → ⊥) × (rel.Is ts i DISTINCT → ⊥)

  -- a call of `exists`, and what follows it
  record Called (tails : List Symbol) (i j : ℕ) (x : Oql) : Type 0 where
    p : ℕ
    operand : Oql
    opened : rel.Is ts (suc i) OPEN
    walk : Yields (suc (suc i)) (Rule table.rule_expr ∷ []) p operand
    closed : rel.Is ts p CLOSE
    more : More (suc p) (tree.Unary i (unary_of (rel.kind_at ts i)) operand) tails j x

  -- by each copy of a level that is allowed, and behind `exists` by a call
  record Opens (n : Copy → ℕ) (tails : List Symbol) (i j : ℕ) (x : Oql) : Type 0 where
    direct : (c : Copy) → Allowed c i → Yields i (Rule (n c) ∷ []) j x
    called : rel.Is ts i EXISTS → Called tails i j x

  -- one level up
  up : (n below : Copy → ℕ) (tails σ : List Symbol) (i m j : ℕ) (x y : Oql) → Each n (λ c. Rule (below c) ∷ σ)
      → Opens below tails i m x → More m x σ j y → Opens n (tails ++ σ) i j y
  up n below tails σ i m j x y P o v = record {
    direct = λ c a s. goes (P c) (then (o.direct c a s) (v s)) done;
    called = λ e. (let r = o.called e in
        record {
          p = r.p;
          operand = r.operand;
          opened = r.opened;
          walk = r.walk;
          closed = r.closed;
          more = λ s. chain (r.more s) (v s);
        });
  }

  -- by its first token, which is not `exists`
  led : (n : Copy → ℕ) (tails body : List Symbol) (i j k : ℕ) (x : Oql) → eqb k EXISTS ≡ false → rel.Is ts i k
      → Each n (λ c. body) → Yields i body j x → Opens n tails i j x
  led n tails body i j k x e f P w = record {
    direct = λ c a s. goes (P c) (w s) done;
    called = λ g. absurd (apart K i k EXISTS e f g);
  }

  -- a q, also behind `select`
  record Both (i j : ℕ) (x : Oql) : Type 0 where
    whole : Yields i (Rule table.rule_q ∷ []) j x
    behind_select : (rel.Is ts i DISTINCT → ⊥) → Yields i (Rule table.rule_q_but_distinct ∷ []) j x

  by_head : (i j : ℕ) (x : Oql) → Yields i (Rule table.rule_q_head ∷ []) j x → Both i j x
  unfolding grammar
  by_head i j x w = record { whole = λ s. by 0 refl (w s); behind_select = λ a s. by 0 refl (w s) }

  -- the highest level
  top : (i m j : ℕ) (x y : Oql) → Opens and_of and_tails i m x → More m x (Rule table.rule_or_tail ∷ []) j y
      → (rel.Is ts i EXISTS) ⊎ (rel.Is ts i EXISTS → ⊥) → Both i j y
  unfolding act actions.act_list actions.act_tree grammar
  top i m j x y o v (inl e) =
      let r = o.called e in
      by_head i j y (λ s. by 2 refl (here e
      (acts (by 1 refl (here r.opened
      (then (r.walk (value.Mark (record { at = i; kind = rel.kind_at ts i }) ∷ s))
      (here r.closed (acts (chain (r.more s) (v s))))))))))
  top i m j x y o v (inr a) = record {
    whole = λ s. by 1 refl (by 0 refl (then (o.direct but_exists a s) (v s)));
    behind_select = λ b s. by 1 refl (by 0 refl (then (o.direct but_both (a, b) s) (v s)));
  }

  plain_by : (i j : ℕ) (x : Oql) → Yields i (Rule table.rule_atom_but_both ∷ []) j x → (c : Copy) → Allowed c i
      → Yields i (Rule (atom_of c) ∷ []) j x
  unfolding grammar
  plain_by i j x w full a = λ s. by 1 refl (by 1 refl (w s))
  plain_by i j x w but_exists a = λ s. by 1 refl (w s)
  plain_by i j x w but_both a = w

  -- an atom that begins with none of the two words
  plain : (i j : ℕ) (x : Oql) → (rel.Is ts i EXISTS → ⊥) → Yields i (Rule table.rule_atom_but_both ∷ []) j x
      → Opens atom_of [] i j x
  unfolding grammar
  plain i j x a w = record {
    direct = λ c. plain_by i j x w c;
    called = λ e. absurd (a e);
  }

  -- a class without `exists`
  no_exists : (i : ℕ) (ks : List ℕ) → among EXISTS ks ≡ false → rel.Among ts i ks → rel.Is ts i EXISTS → ⊥
  no_exists i ks e c d =
      let q : c.0 ≡ EXISTS = (let a = c.1 in cc) in
      let t : true ≡ false = sym c.2 ∙ ap (λ k. among k ks) q ∙ e in
      cc

  abbrev Call : List Symbol
  Call = Action table.DO_MARK ∷ Token OPEN ∷ Rule table.rule_expr ∷ Token CLOSE ∷ Action table.DO_UNARY ∷ []

  -- behind the word of a function
  operand : (i j : ℕ) (x : Oql) → rel.Is ts (suc i) OPEN → Yields (suc (suc i)) (Rule table.rule_expr ∷ []) j x
      → rel.Is ts j CLOSE
      → (s : Values) → W (suc i) Call s (suc j) (value.Tree (tree.Unary i (unary_of (rel.kind_at ts i)) x) ∷ s)
  unfolding act actions.act_list actions.act_tree
  operand i j x o w c s =
      acts (here o (then (w (value.Mark (record { at = i; kind = rel.kind_at ts i }) ∷ s)) (here c (acts done))))

  call_exists : (i j : ℕ) (x : Oql) → rel.Is ts i EXISTS → ((s : Values) → W (suc i) Call s j (value.Tree x ∷ s))
      → (c : Copy) → Allowed c i → Yields i (Rule (atom_of c) ∷ []) j x
  unfolding grammar
  call_exists i j x e w full a = λ s. by 0 refl (here e (w s))
  call_exists i j x e w but_exists a = absurd (a e)
  call_exists i j x e w but_both a = absurd (a.0 e)

  call_distinct : (i j : ℕ) (x : Oql) → rel.Is ts i DISTINCT → ((s : Values) → W (suc i) Call s j (value.Tree x ∷ s))
      → (c : Copy) → Allowed c i → Yields i (Rule (atom_of c) ∷ []) j x
  unfolding grammar
  call_distinct i j x e w full a = λ s. by 1 refl (by 0 refl (here e (w s)))
  call_distinct i j x e w but_exists a = λ s. by 0 refl (here e (w s))
  call_distinct i j x e w but_both a = absurd (a.1 e)

  -- a function with its operand
  call_by : (i j k : ℕ) (x : Oql) → rel.Is ts i k → (k ≡ EXISTS) ⊎ ((k ≡ DISTINCT) ⊎ (among k PLAIN_UNARIES ≡ true))
      → rel.Is ts (suc i) OPEN
      → Yields (suc (suc i)) (Rule table.rule_expr ∷ []) j x → rel.Is ts j CLOSE
      → Opens atom_of [] i (suc j) (tree.Unary i (unary_of (rel.kind_at ts i)) x)
  unfolding act actions.act_list actions.act_tree grammar
  call_by i j k x e (inl q) o w c =
      let f : rel.Is ts i EXISTS = subst (λ z. rel.Is ts i z) q e in
      record {
        direct = λ d. call_exists i (suc j) (tree.Unary i (unary_of (rel.kind_at ts i)) x) f
            (operand i j x o w c) d;
        called = λ g. record
            { p = j; operand = x; opened = o; walk = w; closed = c; more = λ s. done };
      }
  call_by i j k x e (inr (inl q)) o w c =
      let f : rel.Is ts i DISTINCT = subst (λ z. rel.Is ts i z) q e in
      record {
        direct = λ d. call_distinct i (suc j) (tree.Unary i (unary_of (rel.kind_at ts i)) x) f
            (operand i j x o w c) d;
        called = λ g. absurd (apart K i DISTINCT EXISTS refl f g);
      }
  call_by i j k x e (inr (inr m)) o w c =
      plain i (suc j) (tree.Unary i (unary_of (rel.kind_at ts i)) x) (no_exists i PLAIN_UNARIES refl (k, e, m))
      (λ s. by 7 refl (then (classed table.rule_unary PLAIN_UNARIES refl (k, e, m)) (operand i j x o w c s)))

  -- a level as an operand
  full_of : {n : Copy → ℕ} {tails : List Symbol} {i j : ℕ} {x : Oql} → Opens n tails i j x
      → Yields i (Rule (n full) ∷ []) j x
  full_of o = o.direct full tt

  of_divisor : {i j : ℕ} {n : ℤ} → rel.Divisor ts i j n → (s : Values)
      → W i (Rule table.rule_divisor ∷ []) s j (value.Divisor n ∷ s)
  unfolding act actions.act_list actions.act_tree grammar
  of_divisor (rel.negative e f) s = by 0 refl (here e (here f (acts done)))
  of_divisor (rel.positive e) s = by 1 refl (here e (acts done))

  of_directed : {i j : ℕ} {d : Direction} → rel.Directed ts i j d → (x : Oql) (ks : List Key) (s : Values)
      → W i (Rule table.rule_direction ∷ []) (value.Tree x ∷ value.Keys ks ∷ s) j
      (value.Keys (ks ++ trees.key x d ∷ []) ∷ s)
  unfolding act actions.act_list actions.act_tree grammar
  of_directed (rel.ascending e) x ks s = by 0 refl (here e (acts done))
  of_directed (rel.descending e) x ks s = by 1 refl (here e (acts done))
  of_directed rel.undirected x ks s = by 2 refl (acts done)

  sources : {i j k l : ℕ} {bs : List Named} {f : Option Filter} {o : Option Order} {s : Values} → rel.Is ts i FROM
      → W (suc i) (Rule table.rule_binding ∷ Action table.DO_ENTRY ∷ Rule table.rule_bindings ∷ [])
      (value.Entries [] ∷ s) j (value.Entries bs ∷ s)
      → ((r : Values) → W j (Rule table.rule_filter ∷ []) r k (value.Filtered f ∷ r))
      → ((r : Values) → W k (Rule table.rule_order ∷ []) r l (value.Ordered o ∷ r))
      → W i (Rule table.rule_sources ∷ []) s l (value.Ordered o ∷ value.Filtered f ∷ value.Entries bs ∷ s)
  unfolding act actions.act_list actions.act_tree grammar
  sources e bs f o = by 0 refl (here e (acts (chain bs (then (f _) (then (o _) done)))))

  mutual
    unfolding act actions.act_list actions.act_tree grammar

    pub of_expr : {i j : ℕ} {x : Oql} → rel.Expr ts i j x → Yields i (Rule table.rule_expr ∷ []) j x
    of_expr (rel.selected e f) = λ s. by 0 refl (here e (acts (of_selection f _ s)))
    of_expr (rel.value f) = λ s. by 1 refl ((of_q f).whole s)

    of_selection : {i j : ℕ} {x : Select} → rel.Selection ts i j x → (m : Mark) (s : Values)
        → W i (Rule table.rule_selection ∷ []) (value.Mark m ∷ s) j (value.Tree (tree.Select m.at x) ∷ s)
    of_selection (rel.selection (rel.distinct e q) f bs w o) m s =
        by 0 refl (here e (then ((of_q q).whole _)
        (then (sources f (of_bindings bs (by 1 refl done)) (of_filtered w) (of_ordered o)) (acts done))))
    of_selection (rel.selection (rel.all a q) f bs w o) m s =
        by 1 refl (then ((of_q q).behind_select a _)
        (then (sources f (of_bindings bs (by 1 refl done)) (of_filtered w) (of_ordered o)) (acts done)))

    of_bindings : {i j k : ℕ} {bs cs : List Named} {s : Values} → rel.Bindings ts i j bs
        → W j (Rule table.rule_bindings ∷ []) (value.Entries bs ∷ s) k (value.Entries cs ∷ s)
        → W i (Rule table.rule_binding ∷ Action table.DO_ENTRY ∷ Rule table.rule_bindings ∷ []) (value.Entries [] ∷ s) k
        (value.Entries cs ∷ s)
    of_bindings (rel.one_binding b) v = with_binding b v
    of_bindings (rel.more_bindings f e b) v = of_bindings f (by 0 refl (here e (with_binding b v)))

    with_binding : {i j k : ℕ} {b : Named} {bs : List Named} {s t : Values} {σ : List Symbol} → rel.Binding ts i j b
        → W j σ (value.Entries (bs ++ b ∷ []) ∷ s) k t
        → W i (Rule table.rule_binding ∷ Action table.DO_ENTRY ∷ σ) (value.Entries bs ∷ s) k t
    with_binding (rel.binding e f q) v = then (by 0 refl (here e (acts (here f ((of_q q).whole _))))) (acts v)

    of_filtered : {i j : ℕ} {f : Option Filter} → rel.Filtered ts i j f → (s : Values)
        → W i (Rule table.rule_filter ∷ []) s j (value.Filtered f ∷ s)
    of_filtered (rel.filtered e q) s = by 0 refl (here e (acts (then ((of_q q).whole _) (acts done))))
    of_filtered rel.unfiltered s = by 1 refl (acts done)

    of_ordered : {i j : ℕ} {o : Option Order} → rel.Ordered ts i j o → (s : Values)
        → W i (Rule table.rule_order ∷ []) s j (value.Ordered o ∷ s)
    of_ordered (rel.ordered e f ks) s =
        by 0 refl (here e (acts (here f (acts (chain (of_keys ks (by 1 refl done)) (acts done))))))
    of_ordered rel.unordered s = by 1 refl (acts done)

    of_keys : {i j l : ℕ} {ks ls : List Key} {s : Values} → rel.Keys ts i j ks
        → W j (Rule table.rule_keys ∷ []) (value.Keys ks ∷ s) l (value.Keys ls ∷ s)
        → W i (Rule table.rule_key ∷ Rule table.rule_keys ∷ []) (value.Keys [] ∷ s) l (value.Keys ls ∷ s)
    of_keys (rel.one_key k) v = with_key k v
    of_keys (rel.more_keys f e k) v = of_keys f (by 0 refl (here e (with_key k v)))

    with_key : {i j l : ℕ} {k : Key} {ks : List Key} {s t : Values} {σ : List Symbol} → rel.SortKey ts i j k
        → W j σ (value.Keys (ks ++ k ∷ []) ∷ s) l t
        → W i (Rule table.rule_key ∷ σ) (value.Keys ks ∷ s) l t
    with_key (rel.sort_key q d) v = then (by 0 refl (then ((of_q q).whole _) (of_directed d _ _ _))) v

    of_q : {i j : ℕ} {x : Oql} → rel.Q ts i j x → Both i j x
    of_q (rel.if_else e p f q g r) =
        by_head _ _ _ (λ s. by 0 refl (here e
        (acts (then ((of_q p).whole _) (here f
        (then ((of_q q).whole _) (here g (then ((of_q r).whole _) (acts done)))))))))
    of_q (rel.for_all e f (rel.binding n i p) c q) =
        by_head _ _ _ (λ s. by 1 refl (here e
        (acts (here f (then (by 0 refl (here n (acts (here i ((of_q p).whole _)))))
        (here c (then ((of_q q).whole _) (acts done))))))))
    of_q (rel.exists e (rel.binding n i p) c q) =
        by_head _ _ _ (λ s. by 2 refl (here e
        (acts (by 0 refl (then (by 0 refl (here n (acts (here i ((of_q p).whole _)))))
        (here c (then ((of_q q).whole _) (acts done))))))))
    of_q (rel.simple f) = of_or f (λ s. by 1 refl done)

    of_or : {i j k : ℕ} {x y : Oql} → rel.Or ts i j x → More j x (Rule table.rule_or_tail ∷ []) k y → Both i k y
    of_or (rel.or f e g) v =
        of_or f (λ s. by 0 refl (here e (acts (then (full_of (of_and g (λ s. by 1 refl done)) _) (acts (v s))))))
    of_or {i = i} (rel.one_or f) v =
        top _ _ _ _ _ (of_and f (λ s. by 1 refl done)) v (some_or_not (slice_get K i) EXISTS)

    of_and : {i j k : ℕ} {x y : Oql} → rel.And ts i j x → More j x (Rule table.rule_and_tail ∷ []) k y
        → Opens and_of and_tails i k y
    of_and (rel.and f e g) v = of_and f (λ s. by 0 refl (here e (acts (then (full_of (of_not g) _) (acts (v s))))))
    of_and (rel.one_and f) v =
        up and_of not_of rel_tails (Rule table.rule_and_tail ∷ []) _ _ _ _ _
        (each _ _ (record { number = 0; found = refl }) (record { number = 0; found = refl })
        (record { number = 0; found = refl })) (of_not f) v

    of_not : {i j : ℕ} {x : Oql} → rel.Not ts i j x → Opens not_of rel_tails i j x
    of_not (rel.not e f) =
        led not_of rel_tails (Token NOT ∷ Action table.DO_MARK ∷ Rule table.rule_not ∷ Action table.DO_UNARY
        ∷ []) _ _ NOT _ refl e (each _ _ (record { number = 0; found = refl }) (record { number = 0; found = refl })
        (record { number = 0; found = refl })) (λ s. here e (acts (then (full_of (of_not f) _) (acts done))))
    of_not (rel.test f) =
        up not_of rel_of rel_tails [] _ _ _ _ _
        (each _ _ (record { number = 1; found = refl }) (record { number = 1; found = refl })
        (record { number = 1; found = refl })) (of_rel f) (λ s. done)

    of_rel : {i j : ℕ} {x : Oql} → rel.Rel ts i j x → Opens rel_of rel_tails i j x
    of_rel (rel.compared f c g) =
        up rel_of sets_of sets_tails (Rule table.rule_rel_tail ∷ []) _ _ _ _ _
        (each _ _ (record { number = 0; found = refl }) (record { number = 0; found = refl })
        (record { number = 0; found = refl })) (of_sets f (λ s. by 1 refl done))
        (λ s. by 0 refl (then (classed table.rule_test TESTS refl c)
        (acts (then (full_of (of_sets g (λ s. by 1 refl done)) _) (acts done)))))
    of_rel (rel.like f e t) =
        up rel_of sets_of sets_tails (Rule table.rule_rel_tail ∷ []) _ _ _ _ _
        (each _ _ (record { number = 0; found = refl }) (record { number = 0; found = refl })
        (record { number = 0; found = refl })) (of_sets f (λ s. by 1 refl done))
        (λ s. by 1 refl (here e (acts (here t (acts done)))))
    of_rel (rel.untested f) =
        up rel_of sets_of sets_tails (Rule table.rule_rel_tail ∷ []) _ _ _ _ _
        (each _ _ (record { number = 0; found = refl }) (record { number = 0; found = refl })
        (record { number = 0; found = refl })) (of_sets f (λ s. by 1 refl done)) (λ s. by 2 refl done)

    of_sets : {i j k : ℕ} {x y : Oql} → rel.Sets ts i j x → More j x (Rule table.rule_sets_tail ∷ []) k y
        → Opens sets_of sets_tails i k y
    of_sets (rel.sets f c g) v =
        of_sets f (λ s. by 0 refl (then (classed table.rule_set SETS refl c)
        (acts (then (full_of (of_sum g (λ s. by 1 refl done)) _) (acts (v s))))))
    of_sets (rel.one_set f) v =
        up sets_of sum_of sum_tails (Rule table.rule_sets_tail ∷ []) _ _ _ _ _
        (each _ _ (record { number = 0; found = refl }) (record { number = 0; found = refl })
        (record { number = 0; found = refl })) (of_sum f (λ s. by 1 refl done)) v

    of_sum : {i j k : ℕ} {x y : Oql} → rel.Sum ts i j x → More j x (Rule table.rule_sum_tail ∷ []) k y
        → Opens sum_of sum_tails i k y
    of_sum (rel.sum f c g) v =
        of_sum f (λ s. by 0 refl (then (classed table.rule_add SUMS refl c)
        (acts (then (full_of (of_product g (λ s. by 2 refl done)) _) (acts (v s))))))
    of_sum (rel.one_summand f) v =
        up sum_of product_of product_tails (Rule table.rule_sum_tail ∷ []) _ _ _ _ _
        (each _ _ (record { number = 0; found = refl }) (record { number = 0; found = refl })
        (record { number = 0; found = refl })) (of_product f (λ s. by 2 refl done)) v

    of_product : {i j k : ℕ} {x y : Oql} → rel.Product ts i j x → More j x (Rule table.rule_product_tail ∷ []) k y
        → Opens product_of product_tails i k y
    of_product (rel.times f e g) v =
        of_product f (λ s. by 0 refl (here e (acts (then (full_of (of_neg g) _) (acts (v s))))))
    of_product (rel.divided f c d) v =
        of_product f (λ s. by 1 refl (then (classed table.rule_division DIVISIONS refl c)
        (acts (then (of_divisor d _) (acts (v s))))))
    of_product (rel.one_factor f) v =
        up product_of neg_of path_tails (Rule table.rule_product_tail ∷ []) _ _ _ _ _
        (each _ _ (record { number = 0; found = refl }) (record { number = 0; found = refl })
        (record { number = 0; found = refl })) (of_neg f) v

    of_neg : {i j : ℕ} {x : Oql} → rel.Neg ts i j x → Opens neg_of path_tails i j x
    of_neg (rel.neg e f) =
        led neg_of path_tails (Token MINUS ∷ Action table.DO_MARK ∷ Rule table.rule_neg ∷ Action table.DO_UNARY
        ∷ []) _ _ MINUS _ refl e (each _ _ (record { number = 0; found = refl }) (record { number = 0; found = refl })
        (record { number = 0; found = refl })) (λ s. here e (acts (then (full_of (of_neg f) _) (acts done))))
    of_neg (rel.unsigned f) =
        up neg_of path_of path_tails [] _ _ _ _ _
        (each _ _ (record { number = 1; found = refl }) (record { number = 1; found = refl })
        (record { number = 1; found = refl })) (of_path f (λ s. by 1 refl done)) (λ s. done)

    of_path : {i j k : ℕ} {x y : Oql} → rel.Path ts i j x → More j x (Rule table.rule_path_tail ∷ []) k y
        → Opens path_of path_tails i k y
    of_path (rel.dot f e c) v =
        of_path f (λ s. by 0 refl (here e (then (classed table.rule_label LABELS refl c) (acts (v s)))))
    of_path (rel.one_atom f) v =
        up path_of atom_of [] (Rule table.rule_path_tail ∷ []) _ _ _ _ _
        (each _ _ (record { number = 0; found = refl }) (record { number = 0; found = refl })
        (record { number = 0; found = refl })) (of_atom f) v

    of_atom : {i j : ℕ} {x : Oql} → rel.Atom ts i j x → Opens atom_of [] i j x
    of_atom {i = i} (rel.number c) =
        plain _ _ _ (no_exists i WHOLES refl c)
        (λ s. by 0 refl (then (classed table.rule_whole WHOLES refl c) (acts done)))
    of_atom {i = i} (rel.text e) = plain _ _ _ (apart K i TEXT EXISTS refl e) (λ s. by 1 refl (here e (acts done)))
    of_atom {i = i} (rel.constant c) =
        plain _ _ _ (no_exists i CONSTANTS refl c)
        (λ s. by 2 refl (then (classed table.rule_constant CONSTANTS refl c) (acts done)))
    of_atom {i = i} (rel.name e) = plain _ _ _ (apart K i NAME EXISTS refl e) (λ s. by 3 refl (here e (acts done)))
    of_atom {i = i} (rel.parens e f c) =
        plain _ _ _ (apart K i OPEN EXISTS refl e) (λ s. by 4 refl (here e (then (of_expr f s) (here c done))))
    of_atom {i = i} (rel.struct e o fs c) =
        plain _ _ _ (apart K i STRUCT EXISTS refl e)
        (λ s. by 5 refl (here e (acts (here o (acts (then (of_fields fs c _) (acts done)))))))
    of_atom {i = i} (rel.bag e o xs c) =
        plain _ _ _ (apart K i BAG EXISTS refl e)
        (λ s. by 6 refl (here e (acts (here o (acts (then (of_members xs c _) (acts done)))))))
    of_atom {i = i} (rel.call c o f e) =
        call_by i _ c.0 _ c.1 (which_by c.0 (eqb c.0 EXISTS) (eqb c.0 DISTINCT) refl refl c.2) o (of_expr f) e
    of_atom {i = i} (rel.call_two c o p m q e) = plain _ _ _ (no_exists i BINARIES refl c)
        (λ s. by 8 refl (then (classed table.rule_binary BINARIES refl c)
        (acts (here o (then ((of_q p).whole _) (here m (then ((of_q q).whole _) (here e (acts done)))))))))
    of_atom {i = i} (rel.brand c o n m f e) = plain _ _ _ (no_exists i BRANDINGS refl c)
        (λ s. by 9 refl (then (classed table.rule_branding BRANDINGS refl c)
        (acts (here o (here n (acts (here m (then (of_expr f _) (here e (acts done))))))))))
    of_atom {i = i} (rel.match e o p m (rel.case l n a q) k (rel.case r d b t) c) =
        plain _ _ _ (apart K i MATCH EXISTS refl e)
        (λ s. by 10 refl (here e (acts (here o
        (then ((of_q p).whole _) (here m
        (here l (here n (acts (here a (then ((of_q q).whole _)
        (here k (here r (here d (acts (here b (then ((of_q t).whole _) (here c (acts done)))))))))))))))))))

    of_fields : {i j : ℕ} {fs : List Named} → rel.Fields ts i j fs → rel.Is ts j CLOSE → (s : Values)
        → W i (Rule table.rule_fields ∷ []) (value.Entries [] ∷ s) (suc j) (value.Entries fs ∷ s)
    of_fields rel.no_fields c s = by 0 refl (here c done)
    of_fields (rel.fields f) c s = by 1 refl (chain (of_some_fields f (by 1 refl done)) (here c done))

    of_some_fields : {i j k : ℕ} {fs gs : List Named} {s : Values} → rel.SomeFields ts i j fs
        → W j (Rule table.rule_more_fields ∷ []) (value.Entries fs ∷ s) k (value.Entries gs ∷ s)
        → W i (Rule table.rule_field ∷ Rule table.rule_more_fields ∷ []) (value.Entries [] ∷ s) k (value.Entries gs ∷ s)
    of_some_fields (rel.one_field f) v = with_field f v
    of_some_fields (rel.more_fields fs e f) v = of_some_fields fs (by 0 refl (here e (with_field f v)))

    with_field : {i j k : ℕ} {f : Named} {fs : List Named} {s t : Values} {σ : List Symbol} → rel.Field ts i j f
        → W j σ (value.Entries (fs ++ f ∷ []) ∷ s) k t
        → W i (Rule table.rule_field ∷ σ) (value.Entries fs ∷ s) k t
    with_field (rel.field c e q) v =
        then (by 0 refl (then (classed table.rule_label LABELS refl c)
        (acts (here e (then ((of_q q).whole _) (acts done)))))) v

    of_members : {i j : ℕ} {xs : List Oql} → rel.Members ts i j xs → rel.Is ts j CLOSE → (s : Values)
        → W i (Rule table.rule_members ∷ []) (value.Members [] ∷ s) (suc j) (value.Members xs ∷ s)
    of_members rel.no_members c s = by 0 refl (here c done)
    of_members (rel.members f) c s = by 1 refl (chain (of_some_members f (by 1 refl done)) (here c done))

    of_some_members : {i j k : ℕ} {xs ys : List Oql} {s : Values} → rel.SomeMembers ts i j xs
        → W j (Rule table.rule_more_members ∷ []) (value.Members xs ∷ s) k (value.Members ys ∷ s)
        → W i (Rule table.rule_q ∷ Action table.DO_MEMBER ∷ Rule table.rule_more_members ∷ []) (value.Members [] ∷ s) k
        (value.Members ys ∷ s)
    of_some_members (rel.one_member q) v = then ((of_q q).whole _) (acts v)
    of_some_members (rel.more_members f e q) v =
        of_some_members f (by 0 refl (here e (then ((of_q q).whole _) (acts v))))

  of_defines : {i j k : ℕ} {ds : List Named} {s t : Values} → rel.Defines ts i j ds
      → W j (Rule table.rule_defines ∷ []) (value.Entries ds ∷ s) k t
      → W i (Rule table.rule_defines ∷ []) (value.Entries [] ∷ s) k t
  unfolding act actions.act_list actions.act_tree grammar
  of_defines rel.no_define v = v
  of_defines (rel.more_defines f d n a x e) v =
      of_defines f (by 0 refl (here d (here n (acts (here a (then (of_expr x _) (acts (here e v))))))))

  of_ending : {i j : ℕ} → rel.Ending ts i j → (s : Values) → W i (Rule table.rule_end ∷ []) s j s
  unfolding grammar
  of_ending (rel.ended e) s = by 0 refl (here e done)
  of_ending rel.unended s = by 1 refl done

  -- a whole query
  pub of_query : {i j k : ℕ} {ds : List Named} {x : Oql} → rel.Defines ts 0 i ds → rel.Expr ts i j x → rel.Ending ts j k
      → W 0 (Rule table.rule_query ∷ []) [] k (value.Tree x ∷ value.Entries ds ∷ [])
  unfolding act actions.act_list actions.act_tree grammar
  of_query d f e =
      by 0 refl (acts (then (of_defines d (by 1 refl done)) (then (of_expr f _) (then (of_ending e _) done))))
