-- Each alternative of the table is a case of the grammar.
use Rattle.std.proofs.Common.{◌≡◌, ◌||◌, ℕ, suc, true, false, neg_ℤ, List, [], ◌∷◌, ◌++◌, map, refl, sym, ap}
use Rattle.std.proofs.Common.{◌∙◌, subst, eqb, Some, None}
use Rattle.std.proofs.lemmas.Bool.{eq-eqb}
use Rattle.std.proofs.Math.Bool.{or-true}
use Rattle.qc_grammar.specs.inner.Derivations.{alternatives}
use Rattle.qc_oql_tree.specs.TokenKinds.{among}
use Rattle.qc_lex.specs.declared.token.Lexeme.{Lexeme}
use Rattle.qc_oql_tree.specs.declared.tree.Direction.TheVariants as direction
use Rattle.qc_oql_tree.specs.declared.tree.Named.{Named}
use Rattle.qc_oql_tree.specs.declared.tree.Oql.{Oql}
use Rattle.qc_oql_tree.specs.declared.tree.Oql.TheVariants as tree
use Rattle.qc_oql_tree.specs.declared.tree.Quantifier.TheVariants as quantifier
use Rattle.qc_oql_tree.specs.Grammar as rel
use Rattle.qc_oql_tree.specs.TokenKinds.{NAME, DISTINCT, IF, FOR, EXISTS, NOT, MINUS, TEXT}
use Rattle.qc_oql_tree.specs.TokenKinds.{OPEN, CLOSE, COLON, STRUCT, BAG, MATCH}
use Rattle.qc_oql_tree.specs.TokenKinds.{WHOLES, CONSTANTS, SETS, SUMS, DIVISIONS, TESTS, UNARIES, BINARIES, BRANDINGS}
use Rattle.qc_oql_tree.specs.TokenKinds.{LABELS}
use Rattle.qc_oql_tree.specs.Lexemes.{kind, whole, content, lexeme_at}
use Rattle.qc_oql_tree.specs.OperatorTokens.{constant_of, unary_of, binary_of, division_of, branding_of}
use Rattle.qc_oql_tree.specs.Trees as trees
use Rattle.qc_oql_table.specs.declared.value.Value.TheVariants as value
use Rattle.qc_oql_table.specs.Actions as actions
use Rattle.qc_oql_table.specs.Actions.{act}
use Rattle.qc_oql_table.specs.Table.{grammar}
use Rattle.qc_oql_table.specs.Values.{Values, rest, the_entries, the_keys, the_members, the_tree}
use Rattle.qc_grammar.proofs.Walks.{of, Closes, AllClose}
use Rattle.qc_oql_table.proofs.Words as words
use Rattle.qc_oql_table.proofs.Words.{puts, grows, PLAIN_UNARIES}

-- a pair; of a long row of pairs each is one more name in the text
infixr 5 ◌&◌
abbrev ◌&◌ : {A B : Type 0} → A → B → A × B
a & b = (a, b)

-- one more entry
with_entry : (n : Named) (s : Values) (xs : List Named) (r : Values) → s ≡ value.Entries xs ∷ r
    → value.Entries (the_entries s ++ n ∷ []) ∷ rest s ≡ value.Entries (xs ++ n ∷ []) ∷ r
with_entry n s xs r e = ap (λ z. value.Entries (the_entries z ++ n ∷ []) ∷ rest z) e

with_member : (x : Oql) (s : Values) (xs : List Oql) (r : Values) → s ≡ value.Members xs ∷ r
    → value.Members (the_members s ++ x ∷ []) ∷ rest s ≡ value.Members (xs ++ x ∷ []) ∷ r
with_member x s xs r e = ap (λ z. value.Members (the_members z ++ x ∷ []) ∷ rest z) e

module _ (ts : List Lexeme) where
  abbrev K : List ℕ
  K = map kind ts

  -- the alternatives of a rule are cases
  abbrev Of : ℕ → Type 0
  Of n = Closes K (act ts) (words.words ts) n (alternatives grammar n)

  -- one token is not of two kinds
  two : (i a b : ℕ) → eqb a b ≡ false → rel.Is ts i a → rel.Is ts i b → ⊥
  two i a b e f g =
      let q : a ≡ b = cc in
      let t : eqb a b ≡ true = eq-eqb a b q in
      let c : true ≡ false = sym t ∙ e in
      cc

  -- a part of a class of tokens
  class_part : (n : ℕ) (all ks : List ℕ) → of (words.words ts) n ≡ words.class ts all
      → ((k : ℕ) → among k ks ≡ true → among k all ≡ true) → Closes K (act ts) (words.words ts) n (map words.single ks)
  class_part n all [] e f = tt
  class_part n all (k ∷ ks) e f = (
    (λ i s t. subst (λ R. (w : R.Word i s) × (R.end i s w ≡ suc i) × (R.stack i s w ≡ s)) (sym e)
        ((k, t, f k (rw (eq-eqb k k refl) refl)), refl, refl)),
    class_part n all ks e (λ j m. f j (rw m (or-true (eqb j k)))),
  )

  -- a class of tokens
  closes_class : (n : ℕ) (ks : List ℕ) → of (words.words ts) n ≡ words.class ts ks
      → Closes K (act ts) (words.words ts) n (map words.single ks)
  closes_class n ks e = class_part n ks ks e (λ k m. m)

  -- the kind of a class
  class_apart : (i : ℕ) (ks : List ℕ) → among DISTINCT ks ≡ false → rel.Among ts i ks → rel.Is ts i DISTINCT → ⊥
  class_apart i ks e c d =
      let q : c.0 ≡ DISTINCT = (let a = c.1 in cc) in
      let t : true ≡ false = sym c.2 ∙ ap (λ k. among k ks) q ∙ e in
      cc

  -- among all functions of one operand
  plain_unary : (i : ℕ) → rel.Among ts i PLAIN_UNARIES → rel.Among ts i UNARIES
  plain_unary i c = (
    c.0,
    c.1,
    ap (λ z. eqb c.0 EXISTS || (eqb c.0 DISTINCT || z)) c.2
        ∙ ap (λ z. eqb c.0 EXISTS || z) (or-true (eqb c.0 DISTINCT)) ∙ or-true (eqb c.0 EXISTS),
  )

  -- a tail behind what it goes on
  joined : (G H : ℕ → ℕ → Oql → Type 0) (i m : ℕ) (x : Oql) (s : Values) → G i m x
      → (w : (grows value.Tree G H).Word m (value.Tree x ∷ s))
      → (v : (puts value.Tree H).Word i s) × ((puts value.Tree H).end i s v ≡ w.0)
      × ((puts value.Tree H).stack i s v ≡ w.1)
  joined G H i m x s g w = let r = w.2 i x s g refl in ((w.0, r.0, r.1), refl, sym r.2)

  -- the same where it does not begin with `distinct`
  joined_apart : (G H : ℕ → ℕ → Oql → Type 0) (i m : ℕ) (x : Oql) (s : Values) → (rel.Is ts i DISTINCT → ⊥) → G i m x
      → (w : (grows value.Tree G H).Word m (value.Tree x ∷ s))
      → (v : (puts value.Tree (words.Apart ts H)).Word i s) × ((puts value.Tree (words.Apart ts H)).end i s v ≡ w.0)
      × ((puts value.Tree (words.Apart ts H)).stack i s v ≡ w.1)
  joined_apart G H i m x s a g w = let r = w.2 i x s g refl in ((w.0, r.0, (a, r.1)), refl, sym r.2)

  -- behind `exists` a binding
  quantifies : (i h : ℕ) (s r : Values) (w : (j : ℕ) × (x : Oql)
      × rel.Binding ts i j (trees.named i (rel.text_at ts i) x)) → rel.Is ts w.0 COLON
      → (v : (j : ℕ) × (x : Oql) × rel.Q ts (suc w.0) j x)
      → i ≡ suc h → rel.Is ts h EXISTS → s ≡ value.Mark (record { at = h; kind = rel.kind_at ts h }) ∷ r
      → (x : Oql) × rel.Q ts h v.0 x × (actions.quantified quantifier.Exists
      (value.Tree v.1 ∷ value.Tree w.1 ∷ value.Name (record { at = i; text = rel.text_at ts i }) ∷ s)
      ≡ value.Tree x ∷ r)
  quantifies i h s r w e v p f q =
      let b = subst (λ z. rel.Binding ts z w.0 (trees.named i (rel.text_at ts i) w.1)) p w.2 in (
        tree.Quantified h quantifier.Exists (trees.named i (rel.text_at ts i) w.1) v.1,
        rel.exists f b e v.2,
        ap (λ z. actions.quantified quantifier.Exists
            (value.Tree v.1 ∷ value.Tree w.1 ∷ value.Name (record { at = i; text = rel.text_at ts i }) ∷ z)) q,
      )

  -- behind `exists` a call, and what goes on with it
  calls : (i h : ℕ) (s r : Values) → rel.Is ts i OPEN → (w : (j : ℕ) × (x : Oql) × rel.Expr ts (suc i) j x)
      → rel.Is ts w.0 CLOSE
      → (v1 : (words.tail ts (rel.Path ts) (rel.Path ts)).Word (suc w.0) (actions.unary (value.Tree w.1 ∷ s)))
      → (v2 : (words.tail ts (rel.Product ts) (rel.Product ts)).Word v1.0 v1.1)
      → (v3 : (words.tail ts (rel.Sum ts) (rel.Sum ts)).Word v2.0 v2.1)
      → (v4 : (words.tail ts (rel.Sets ts) (rel.Sets ts)).Word v3.0 v3.1)
      → (v5 : (words.tail ts (rel.Sets ts) (rel.Rel ts)).Word v4.0 v4.1)
      → (v6 : (words.tail ts (rel.And ts) (rel.And ts)).Word v5.0 v5.1)
      → (v7 : (words.tail ts (rel.Or ts) (rel.Or ts)).Word v6.0 v6.1)
      → i ≡ suc h → rel.Is ts h EXISTS → s ≡ value.Mark (record { at = h; kind = rel.kind_at ts h }) ∷ r
      → (x : Oql) × rel.Q ts h v7.0 x × (v7.1 ≡ value.Tree x ∷ r)
  calls i h s r e w c v1 v2 v3 v4 v5 v6 v7 p f q =
      let y = tree.Unary h (unary_of (rel.kind_at ts h)) w.1 in
      let o = subst (λ z. rel.Is ts z OPEN) p e in
      let a = subst (λ z. rel.Expr ts (suc z) w.0 w.1) p w.2 in
      let q1 = v1.2 h y r (rel.one_atom (rel.call (EXISTS, f, refl) o a c))
      (ap (λ z. actions.unary (value.Tree w.1 ∷ z)) q) in
      let q2 = v2.2 h q1.0 r (rel.one_factor (rel.unsigned q1.1)) q1.2 in
      let q3 = v3.2 h q2.0 r (rel.one_summand q2.1) q2.2 in
      let q4 = v4.2 h q3.0 r (rel.one_set q3.1) q3.2 in
      let q5 = v5.2 h q4.0 r q4.1 q4.2 in
      let q6 = v6.2 h q5.0 r (rel.one_and (rel.test q5.1)) q5.2 in
      let q7 = v7.2 h q6.0 r (rel.one_or q6.1) q6.2 in
      (q7.0, rel.simple q7.1, q7.2)

  of_query : Of 0
  unfolding act actions.act_list actions.act_tree grammar
  of_query = (
    (λ i s w1 w2 w3. let d = w1.2 i [] s rel.no_define refl in (
      record {
        j = w1.0;
        k = w2.0;
        end = w3.0;
        defines = d.0;
        body = w2.1;
        defined = d.1;
        spelled = w2.2;
        ended = w3.1;
      },
      refl,
      ap (λ z. value.Tree w2.1 ∷ z) (sym d.2),
    )),
    tt,
  )

  of_defines : Of 1
  unfolding act actions.act_list actions.act_tree grammar
  of_defines = (
    (λ i s e1 e2 e3 w e4 v. (
      (
        v.0,
        v.1,
        λ h xs r d q. v.2 h
            (xs ++ trees.named (suc i) (rel.text_at ts (suc i)) w.1 ∷ []) r (rel.more_defines d e1 e2 e3 w.2 e4)
            (with_entry (trees.named (suc i) (rel.text_at ts (suc i)) w.1) s xs r q),
      ),
      refl,
      refl,
    )),
    (
      (λ i s. ((i, s, λ h x r d q. (x, d, q)), refl, refl)),
      tt,
    ),
  )

  of_end : Of 2
  unfolding grammar
  of_end = (
    (λ i s e. ((suc i, rel.ended e), refl, refl)),
    (
      (λ i s. ((i, rel.unended), refl, refl)),
      tt,
    ),
  )

  of_expr : Of 3
  unfolding act actions.act_list actions.act_tree grammar
  of_expr = (
    (λ i s e w. ((w.0, tree.Select i w.1, rel.selected e w.2), refl, refl)),
    (
      (λ i s w. ((w.0, w.1, rel.value w.2), refl, refl)),
      tt,
    ),
  )

  of_selection : Of 4
  unfolding act actions.act_list actions.act_tree grammar
  of_selection = (
    (λ i s e w v. (
      (
        v.end,
        trees.select true w.1 v.bindings v.filter v.order,
        rel.selection (rel.distinct e w.2) v.sources.from v.sources.bindings v.sources.filtered v.sources.ordered,
      ),
      refl,
      refl,
    )),
    (
      (λ i s w v. (
        (
          v.end,
          trees.select false w.1 v.bindings v.filter v.order,
          rel.selection (rel.all w.2.0 w.2.1) v.sources.from v.sources.bindings v.sources.filtered v.sources.ordered,
        ),
        refl,
        refl,
      )),
      tt,
    ),
  )

  of_sources : Of 5
  unfolding act actions.act_list actions.act_tree grammar
  of_sources = (
    (λ i s e w v f o.
        let b = v.2 (suc i) (trees.named (suc i) (rel.text_at ts (suc i)) w.1 ∷ []) s (rel.one_binding w.2) refl in (
          record {
            end = o.0;
            bindings = b.0;
            filter = f.1;
            order = o.1;
            sources = record { k = v.0; l = f.0; from = e; bindings = b.1; filtered = f.2; ordered = o.2 };
          },
          refl,
          ap (λ z. value.Ordered o.1 ∷ value.Filtered f.1 ∷ z) (sym b.2),
        )),
    tt,
  )

  of_bindings : Of 6
  unfolding act actions.act_list actions.act_tree grammar
  of_bindings = (
    (λ i s e w v. (
      (
        v.0,
        v.1,
        λ h xs r d q. v.2 h (xs ++ trees.named (suc i) (rel.text_at ts (suc i)) w.1 ∷ []) r
            (rel.more_bindings d e w.2) (with_entry (trees.named (suc i) (rel.text_at ts (suc i)) w.1) s xs r q),
      ),
      refl,
      refl,
    )),
    (
      (λ i s. ((i, s, λ h x r d q. (x, d, q)), refl, refl)),
      tt,
    ),
  )

  of_binding : Of 7
  unfolding act actions.act_list actions.act_tree grammar
  of_binding = (
    (λ i s e1 e2 w. ((w.0, w.1, rel.binding e1 e2 w.2), refl, refl)),
    tt,
  )

  of_filter : Of 8
  unfolding act actions.act_list actions.act_tree grammar
  of_filter = (
    (λ i s e w. ((w.0, Some (trees.filter i w.1), rel.filtered e w.2), refl, refl)),
    (
      (λ i s. ((i, None, rel.unfiltered), refl, refl)),
      tt,
    ),
  )

  of_order : Of 9
  unfolding act actions.act_list actions.act_tree grammar
  of_order = (
    (λ i s e1 e2 w v.
        let g = v.2 (suc (suc i)) (w.1 ∷ []) (value.Mark (record { at = i; kind = rel.kind_at ts i }) ∷ s)
        (rel.one_key w.2) refl in
        ((v.0, Some (trees.order i g.0), rel.ordered e1 e2 g.1), refl, ap (λ z. actions.order z) (sym g.2))),
    (
      (λ i s. ((i, None, rel.unordered), refl, refl)),
      tt,
    ),
  )

  of_keys : Of 10
  unfolding act actions.act_list actions.act_tree grammar
  of_keys = (
    (λ i s e w v. (
      (
        v.0,
        v.1,
        λ h xs r d q. v.2 h (xs ++ w.1 ∷ []) r (rel.more_keys d e w.2)
            (ap (λ z. value.Keys (the_keys z ++ w.1 ∷ []) ∷ rest z) q),
      ),
      refl,
      refl,
    )),
    (
      (λ i s. ((i, s, λ h x r d q. (x, d, q)), refl, refl)),
      tt,
    ),
  )

  of_key : Of 11
  unfolding act actions.act_list actions.act_tree grammar
  of_key = (
    (λ i s w v. ((v.0, trees.key w.1 v.1, rel.sort_key w.2 v.2), refl, refl)),
    tt,
  )

  of_direction : Of 12
  unfolding act actions.act_list actions.act_tree grammar
  of_direction = (
    (λ i s e. ((suc i, direction.Asc, rel.ascending e), refl, refl)),
    (
      (λ i s e. ((suc i, direction.Desc, rel.descending e), refl, refl)),
      (
        (λ i s. ((i, direction.Asc, rel.undirected), refl, refl)),
        tt,
      ),
    ),
  )

  of_q : Of 13
  unfolding grammar
  of_q = (
    (λ i s w. ((w.0, w.1, w.2.1), refl, refl)),
    (
      (λ i s w. ((w.0, w.1, rel.simple w.2), refl, refl)),
      tt,
    ),
  )

  of_q_but_distinct : Of 14
  unfolding grammar
  of_q_but_distinct = (
    (λ i s w. (w, refl, refl)),
    (
      (λ i s w. ((w.0, w.1, (w.2.0, rel.simple w.2.1)), refl, refl)),
      tt,
    ),
  )

  of_q_head : Of 15
  unfolding act actions.act_list actions.act_tree grammar
  of_q_head = (
    (λ i s e1 w1 e2 w2 e3 w3. (
      (
        w3.0,
        tree.If i w1.1 w2.1 w3.1,
        (two i IF DISTINCT refl e1, rel.if_else e1 w1.2 e2 w2.2 e3 w3.2),
      ),
      refl,
      refl,
    )),
    (
      (λ i s e1 e2 w e3 v. (
        (
          v.0,
          tree.Quantified i quantifier.ForAll
              (trees.named (suc (suc i)) (rel.text_at ts (suc (suc i))) w.1) v.1,
          (two i FOR DISTINCT refl e1, rel.for_all e1 e2 w.2 e3 v.2),
        ),
        refl,
        refl,
      )),
      (
        (λ i s e w. let g = w.2 i s refl e refl in ((w.0, g.0, (two i EXISTS DISTINCT refl e, g.1)), refl, sym g.2)),
        tt,
      ),
    ),
  )

  of_exists_rest : Of 16
  unfolding act actions.act_list actions.act_tree grammar
  of_exists_rest = (
    (λ i s w e v. (
      (
        v.0,
        actions.quantified quantifier.Exists
            (value.Tree v.1 ∷ value.Tree w.1 ∷ value.Name (record { at = i; text = rel.text_at ts i }) ∷ s),
        λ h r p f q. quantifies i h s r w e v p f q,
      ),
      refl,
      refl,
    )),
    (
      (λ i s e w c v1 v2 v3 v4 v5 v6 v7.
          ((v7.0, v7.1, λ h r p f q. calls i h s r e w c v1 v2 v3 v4 v5 v6 v7 p f q), refl, refl)),
      tt,
    ),
  )

  of_or_but_exists : Of 17
  unfolding grammar
  of_or_but_exists = (
    (λ i s w v. joined (rel.Or ts) (rel.Or ts) i w.0 w.1 s (rel.one_or w.2) v),
    tt,
  )

  of_and_but_exists : Of 18
  unfolding grammar
  of_and_but_exists = (
    (λ i s w v. joined (rel.And ts) (rel.And ts) i w.0 w.1 s (rel.one_and w.2) v),
    tt,
  )

  of_not_but_exists : Of 19
  unfolding act actions.act_list actions.act_tree grammar
  of_not_but_exists = (
    (λ i s e w. ((w.0, tree.Unary i (unary_of (rel.kind_at ts i)) w.1, rel.not e w.2), refl, refl)),
    (
      (λ i s w. ((w.0, w.1, rel.test w.2), refl, refl)),
      tt,
    ),
  )

  of_rel_but_exists : Of 20
  unfolding grammar
  of_rel_but_exists = (
    (λ i s w v. joined (rel.Sets ts) (rel.Rel ts) i w.0 w.1 s w.2 v),
    tt,
  )

  of_sets_but_exists : Of 21
  unfolding grammar
  of_sets_but_exists = (
    (λ i s w v. joined (rel.Sets ts) (rel.Sets ts) i w.0 w.1 s (rel.one_set w.2) v),
    tt,
  )

  of_sum_but_exists : Of 22
  unfolding grammar
  of_sum_but_exists = (
    (λ i s w v. joined (rel.Sum ts) (rel.Sum ts) i w.0 w.1 s (rel.one_summand w.2) v),
    tt,
  )

  of_product_but_exists : Of 23
  unfolding grammar
  of_product_but_exists = (
    (λ i s w v. joined (rel.Product ts) (rel.Product ts) i w.0 w.1 s (rel.one_factor w.2) v),
    tt,
  )

  of_neg_but_exists : Of 24
  unfolding act actions.act_list actions.act_tree grammar
  of_neg_but_exists = (
    (λ i s e w. ((w.0, tree.Unary i (unary_of (rel.kind_at ts i)) w.1, rel.neg e w.2), refl, refl)),
    (
      (λ i s w. ((w.0, w.1, rel.unsigned w.2), refl, refl)),
      tt,
    ),
  )

  of_path_but_exists : Of 25
  unfolding grammar
  of_path_but_exists = (
    (λ i s w v. joined (rel.Path ts) (rel.Path ts) i w.0 w.1 s (rel.one_atom w.2) v),
    tt,
  )

  of_or_but_both : Of 26
  unfolding grammar
  of_or_but_both = (
    (λ i s w v. joined_apart (rel.Or ts) (rel.Or ts) i w.0 w.1 s w.2.0 (rel.one_or w.2.1) v),
    tt,
  )

  of_and_but_both : Of 27
  unfolding grammar
  of_and_but_both = (
    (λ i s w v. joined_apart (rel.And ts) (rel.And ts) i w.0 w.1 s w.2.0 (rel.one_and w.2.1) v),
    tt,
  )

  of_not_but_both : Of 28
  unfolding act actions.act_list actions.act_tree grammar
  of_not_but_both = (
    (λ i s e w. (
      (w.0, tree.Unary i (unary_of (rel.kind_at ts i)) w.1, (two i NOT DISTINCT refl e, rel.not e w.2)),
      refl,
      refl,
    )),
    (
      (λ i s w. ((w.0, w.1, (w.2.0, rel.test w.2.1)), refl, refl)),
      tt,
    ),
  )

  of_rel_but_both : Of 29
  unfolding grammar
  of_rel_but_both = (
    (λ i s w v. joined_apart (rel.Sets ts) (rel.Rel ts) i w.0 w.1 s w.2.0 w.2.1 v),
    tt,
  )

  of_sets_but_both : Of 30
  unfolding grammar
  of_sets_but_both = (
    (λ i s w v. joined_apart (rel.Sets ts) (rel.Sets ts) i w.0 w.1 s w.2.0 (rel.one_set w.2.1) v),
    tt,
  )

  of_sum_but_both : Of 31
  unfolding grammar
  of_sum_but_both = (
    (λ i s w v. joined_apart (rel.Sum ts) (rel.Sum ts) i w.0 w.1 s w.2.0 (rel.one_summand w.2.1) v),
    tt,
  )

  of_product_but_both : Of 32
  unfolding grammar
  of_product_but_both = (
    (λ i s w v. joined_apart (rel.Product ts) (rel.Product ts) i w.0 w.1 s w.2.0 (rel.one_factor w.2.1) v),
    tt,
  )

  of_neg_but_both : Of 33
  unfolding act actions.act_list actions.act_tree grammar
  of_neg_but_both = (
    (λ i s e w. (
      (w.0, tree.Unary i (unary_of (rel.kind_at ts i)) w.1, (two i MINUS DISTINCT refl e, rel.neg e w.2)),
      refl,
      refl,
    )),
    (
      (λ i s w. ((w.0, w.1, (w.2.0, rel.unsigned w.2.1)), refl, refl)),
      tt,
    ),
  )

  of_path_but_both : Of 34
  unfolding grammar
  of_path_but_both = (
    (λ i s w v. joined_apart (rel.Path ts) (rel.Path ts) i w.0 w.1 s w.2.0 (rel.one_atom w.2.1) v),
    tt,
  )

  of_and : Of 35
  unfolding grammar
  of_and = (
    (λ i s w v. joined (rel.And ts) (rel.And ts) i w.0 w.1 s (rel.one_and w.2) v),
    tt,
  )

  of_not : Of 36
  unfolding act actions.act_list actions.act_tree grammar
  of_not = (
    (λ i s e w. ((w.0, tree.Unary i (unary_of (rel.kind_at ts i)) w.1, rel.not e w.2), refl, refl)),
    (
      (λ i s w. ((w.0, w.1, rel.test w.2), refl, refl)),
      tt,
    ),
  )

  of_rel : Of 37
  unfolding grammar
  of_rel = (
    (λ i s w v. joined (rel.Sets ts) (rel.Rel ts) i w.0 w.1 s w.2 v),
    tt,
  )

  of_sets : Of 38
  unfolding grammar
  of_sets = (
    (λ i s w v. joined (rel.Sets ts) (rel.Sets ts) i w.0 w.1 s (rel.one_set w.2) v),
    tt,
  )

  of_sum : Of 39
  unfolding grammar
  of_sum = (
    (λ i s w v. joined (rel.Sum ts) (rel.Sum ts) i w.0 w.1 s (rel.one_summand w.2) v),
    tt,
  )

  of_product : Of 40
  unfolding grammar
  of_product = (
    (λ i s w v. joined (rel.Product ts) (rel.Product ts) i w.0 w.1 s (rel.one_factor w.2) v),
    tt,
  )

  of_neg : Of 41
  unfolding act actions.act_list actions.act_tree grammar
  of_neg = (
    (λ i s e w. ((w.0, tree.Unary i (unary_of (rel.kind_at ts i)) w.1, rel.neg e w.2), refl, refl)),
    (
      (λ i s w. ((w.0, w.1, rel.unsigned w.2), refl, refl)),
      tt,
    ),
  )

  of_path : Of 42
  unfolding grammar
  of_path = (
    (λ i s w v. joined (rel.Path ts) (rel.Path ts) i w.0 w.1 s (rel.one_atom w.2) v),
    tt,
  )

  of_or_tail : Of 43
  unfolding act actions.act_list actions.act_tree grammar
  of_or_tail = (
    (λ i s e w v. (
      (
        v.0,
        v.1,
        λ h x r f q. v.2 h (tree.Binary i (binary_of (rel.kind_at ts i)) x w.1) r (rel.or f e w.2)
            (ap (λ z. value.Tree (tree.Binary i (binary_of (rel.kind_at ts i)) (the_tree z) w.1) ∷ rest z) q),
      ),
      refl,
      refl,
    )),
    (
      (λ i s. ((i, s, λ h x r d q. (x, d, q)), refl, refl)),
      tt,
    ),
  )

  of_and_tail : Of 44
  unfolding act actions.act_list actions.act_tree grammar
  of_and_tail = (
    (λ i s e w v. (
      (
        v.0,
        v.1,
        λ h x r f q. v.2 h (tree.Binary i (binary_of (rel.kind_at ts i)) x w.1) r
            (rel.and f e w.2) (ap (λ z. value.Tree (tree.Binary i (binary_of (rel.kind_at ts i)) (the_tree z) w.1)
            ∷ rest z) q),
      ),
      refl,
      refl,
    )),
    (
      (λ i s. ((i, s, λ h x r d q. (x, d, q)), refl, refl)),
      tt,
    ),
  )

  of_rel_tail : Of 45
  unfolding act actions.act_list actions.act_tree grammar
  of_rel_tail = (
    (λ i s e w. (
      (
        w.0,
        value.Tree (tree.Binary i (binary_of (rel.kind_at ts i)) (the_tree s) w.1)
            ∷ rest s,
        λ h x r f q. (
          tree.Binary i (binary_of (rel.kind_at ts i)) x w.1,
          rel.compared f e w.2,
          ap (λ z. value.Tree (tree.Binary i (binary_of (rel.kind_at ts i)) (the_tree z) w.1) ∷ rest z) q,
        ),
      ),
      refl,
      refl,
    )),
    (
      (λ i s e1 e2. (
        (
          suc (suc i),
          value.Tree (tree.Like i (the_tree s) (content (lexeme_at ts (suc i))))
              ∷ rest s,
          λ h x r f q. (
            tree.Like i x (content (lexeme_at ts (suc i))),
            rel.like f e1 e2,
            ap (λ z. value.Tree (tree.Like i (the_tree z) (content (lexeme_at ts (suc i)))) ∷ rest z) q,
          ),
        ),
        refl,
        refl,
      )),
      (
        (λ i s. ((i, s, λ h x r f q. (x, rel.untested f, q)), refl, refl)),
        tt,
      ),
    ),
  )

  of_sets_tail : Of 46
  unfolding act actions.act_list actions.act_tree grammar
  of_sets_tail = (
    (λ i s e w v. (
      (
        v.0,
        v.1,
        λ h x r f q. v.2 h (tree.Binary i (binary_of (rel.kind_at ts i)) x w.1) r
            (rel.sets f e w.2) (ap (λ z. value.Tree (tree.Binary i (binary_of (rel.kind_at ts i)) (the_tree z) w.1)
            ∷ rest z) q),
      ),
      refl,
      refl,
    )),
    (
      (λ i s. ((i, s, λ h x r d q. (x, d, q)), refl, refl)),
      tt,
    ),
  )

  of_sum_tail : Of 47
  unfolding act actions.act_list actions.act_tree grammar
  of_sum_tail = (
    (λ i s e w v. (
      (
        v.0,
        v.1,
        λ h x r f q. v.2 h (tree.Binary i (binary_of (rel.kind_at ts i)) x w.1) r
            (rel.sum f e w.2) (ap (λ z. value.Tree (tree.Binary i (binary_of (rel.kind_at ts i)) (the_tree z) w.1)
            ∷ rest z) q),
      ),
      refl,
      refl,
    )),
    (
      (λ i s. ((i, s, λ h x r d q. (x, d, q)), refl, refl)),
      tt,
    ),
  )

  of_product_tail : Of 48
  unfolding act actions.act_list actions.act_tree grammar
  of_product_tail = (
    (λ i s e w v. (
      (
        v.0,
        v.1,
        λ h x r f q. v.2 h (tree.Binary i (binary_of (rel.kind_at ts i)) x w.1) r
            (rel.times f e w.2) (ap (λ z. value.Tree (tree.Binary i (binary_of (rel.kind_at ts i)) (the_tree z) w.1)
            ∷ rest z) q),
      ),
      refl,
      refl,
    )),
    (
      (λ i s e w v. (
        (
          v.0,
          v.1,
          λ h x r f q. v.2 h (tree.Divide i (division_of (rel.kind_at ts i)) x w.1) r
              (rel.divided f e w.2) (ap (λ z. value.Tree
              (tree.Divide i (division_of (rel.kind_at ts i)) (the_tree z) w.1)
              ∷ rest z) q),
        ),
        refl,
        refl,
      )),
      (
        (λ i s. ((i, s, λ h x r d q. (x, d, q)), refl, refl)),
        tt,
      ),
    ),
  )

  of_divisor : Of 49
  unfolding act actions.act_list actions.act_tree grammar
  of_divisor = (
    (λ i s e1 e2. ((suc (suc i), neg_ℤ (whole (lexeme_at ts (suc i))), rel.negative e1 e2), refl, refl)),
    (
      (λ i s e. ((suc i, whole (lexeme_at ts i), rel.positive e), refl, refl)),
      tt,
    ),
  )

  of_path_tail : Of 50
  unfolding act actions.act_list actions.act_tree grammar
  of_path_tail = (
    (λ i s e c v. (
      (
        v.0,
        v.1,
        λ h x r f q. v.2 h (tree.Dot (suc i) x (rel.text_at ts (suc i))) r (rel.dot f e c)
            (ap (λ z. value.Tree (tree.Dot (suc i) (the_tree z) (rel.text_at ts (suc i))) ∷ rest z) q),
      ),
      refl,
      refl,
    )),
    (
      (λ i s. ((i, s, λ h x r d q. (x, d, q)), refl, refl)),
      tt,
    ),
  )

  of_atom : Of 51
  unfolding act actions.act_list actions.act_tree grammar
  of_atom = (
    (λ i s e1 e2 w e3. (
      (
        suc w.0,
        tree.Unary i (unary_of (rel.kind_at ts i)) w.1,
        rel.call (EXISTS, e1, refl) e2 w.2 e3,
      ),
      refl,
      refl,
    )),
    (
      (λ i s w. (w, refl, refl)),
      tt,
    ),
  )

  of_atom_but_exists : Of 52
  unfolding act actions.act_list actions.act_tree grammar
  of_atom_but_exists = (
    (λ i s e1 e2 w e3. (
      (
        suc w.0,
        tree.Unary i (unary_of (rel.kind_at ts i)) w.1,
        rel.call (DISTINCT, e1, refl) e2 w.2 e3,
      ),
      refl,
      refl,
    )),
    (
      (λ i s w. ((w.0, w.1, w.2.1), refl, refl)),
      tt,
    ),
  )

  of_atom_but_both : Of 53
  unfolding act actions.act_list actions.act_tree grammar
  of_atom_but_both = (
    (λ i s c. (
      (suc i, tree.Whole i (whole (lexeme_at ts i)), (class_apart i WHOLES refl c, rel.number c)),
      refl,
      refl,
    )),
    (
      (λ i s e. (
        (suc i, tree.Text i (content (lexeme_at ts i)), (two i TEXT DISTINCT refl e, rel.text e)),
        refl,
        refl,
      )),
      (
        (λ i s c. (
          (
            suc i,
            tree.Constant i (constant_of (rel.kind_at ts i)),
            (class_apart i CONSTANTS refl c, rel.constant c),
          ),
          refl,
          refl,
        )),
        (
          (λ i s e. ((suc i, tree.Name i (rel.text_at ts i), (two i NAME DISTINCT refl e, rel.name e)), refl, refl)),
          (
            (λ i s e1 w e2. ((suc w.0, w.1, (two i OPEN DISTINCT refl e1, rel.parens e1 w.2 e2)), refl, refl)),
            (
              (λ i s e1 e2 w. let g = w.3 (value.Mark (record { at = i; kind = rel.kind_at ts i }) ∷ s) refl in (
                (suc w.0, tree.Struct i g.0, (two i STRUCT DISTINCT refl e1, rel.struct e1 e2 g.1 w.2)),
                refl,
                ap (λ z. actions.struct z) (sym g.2),
              )),
              (
                (λ i s e1 e2 w. let g = w.3 (value.Mark (record { at = i; kind = rel.kind_at ts i }) ∷ s) refl in (
                  (suc w.0, tree.Bag i g.0, (two i BAG DISTINCT refl e1, rel.bag e1 e2 g.1 w.2)),
                  refl,
                  ap (λ z. actions.bag z) (sym g.2),
                )),
                (
                  (λ i s c e1 w e2. (
                    (
                      suc w.0,
                      tree.Unary i (unary_of (rel.kind_at ts i)) w.1,
                      (class_apart i PLAIN_UNARIES refl c, rel.call (plain_unary i c) e1 w.2 e2),
                    ),
                    refl,
                    refl,
                  )),
                  (
                    (λ i s c e1 w e2 v e3. (
                      (
                        suc v.0,
                        tree.Binary i (binary_of (rel.kind_at ts i)) w.1 v.1,
                        (class_apart i BINARIES refl c, rel.call_two c e1 w.2 e2 v.2 e3),
                      ),
                      refl,
                      refl,
                    )),
                    (
                      (λ i s c e1 e2 e3 w e4. (
                        (
                          suc w.0,
                          tree.Brand i (branding_of (rel.kind_at ts i)) (rel.text_at ts (suc (suc i))) w.1,
                          (class_apart i BRANDINGS refl c, rel.brand c e1 e2 e3 w.2 e4),
                        ),
                        refl,
                        refl,
                      )),
                      (
                        (λ i s e1 e2 w e3 l1 l2 l3 u e4 r1 r2 r3 v e5. (
                          (
                            suc v.0,
                            tree.Match i w.1 (trees.named (suc (suc w.0)) (rel.text_at ts (suc (suc w.0))) u.1)
                                (trees.named (suc (suc u.0)) (rel.text_at ts (suc (suc u.0))) v.1),
                            (
                              two i MATCH DISTINCT refl e1,
                              rel.match e1 e2 w.2 e3 (rel.case l1 l2 l3 u.2) e4 (rel.case r1 r2 r3 v.2) e5,
                            ),
                          ),
                          refl,
                          refl,
                        )),
                        tt,
                      ),
                    ),
                  ),
                ),
              ),
            ),
          ),
        ),
      ),
    ),
  )

  of_fields : Of 54
  unfolding act actions.act_list actions.act_tree grammar
  of_fields = (
    (λ i s e. ((i, s, e, λ r q. ([], rel.no_fields, q)), refl, refl)),
    (
      (λ i s w v e. (
        (
          v.0,
          v.1,
          e,
          λ r q. let g = v.2 i (w.1 ∷ []) r (rel.one_field w.2) (with_entry w.1 s [] r q) in
              (g.0, rel.fields g.1, g.2),
        ),
        refl,
        refl,
      )),
      tt,
    ),
  )

  of_more_fields : Of 55
  unfolding act actions.act_list actions.act_tree grammar
  of_more_fields = (
    (λ i s e w v. (
      (
        v.0,
        v.1,
        λ h xs r d q. v.2 h (xs ++ w.1 ∷ []) r (rel.more_fields d e w.2)
            (with_entry w.1 s xs r q),
      ),
      refl,
      refl,
    )),
    (
      (λ i s. ((i, s, λ h x r d q. (x, d, q)), refl, refl)),
      tt,
    ),
  )

  of_field : Of 56
  unfolding act actions.act_list actions.act_tree grammar
  of_field = (
    (λ i s c e w. ((w.0, trees.named i (rel.text_at ts i) w.1, rel.field c e w.2), refl, refl)),
    tt,
  )

  of_members : Of 57
  unfolding act actions.act_list actions.act_tree grammar
  of_members = (
    (λ i s e. ((i, s, e, λ r q. ([], rel.no_members, q)), refl, refl)),
    (
      (λ i s w v e. (
        (
          v.0,
          v.1,
          e,
          λ r q. let g = v.2 i (w.1 ∷ []) r (rel.one_member w.2) (with_member w.1 s [] r q) in
              (g.0, rel.members g.1, g.2),
        ),
        refl,
        refl,
      )),
      tt,
    ),
  )

  of_more_members : Of 58
  unfolding act actions.act_list actions.act_tree grammar
  of_more_members = (
    (λ i s e w v. (
      (
        v.0,
        v.1,
        λ h xs r d q. v.2 h (xs ++ w.1 ∷ []) r (rel.more_members d e w.2)
            (with_member w.1 s xs r q),
      ),
      refl,
      refl,
    )),
    (
      (λ i s. ((i, s, λ h x r d q. (x, d, q)), refl, refl)),
      tt,
    ),
  )

  of_whole : Of 59
  unfolding grammar
  of_whole = closes_class 59 WHOLES refl

  of_constant : Of 60
  unfolding grammar
  of_constant = closes_class 60 CONSTANTS refl

  of_set : Of 61
  unfolding grammar
  of_set = closes_class 61 SETS refl

  of_add : Of 62
  unfolding grammar
  of_add = closes_class 62 SUMS refl

  of_division : Of 63
  unfolding grammar
  of_division = closes_class 63 DIVISIONS refl

  of_test : Of 64
  unfolding grammar
  of_test = closes_class 64 TESTS refl

  of_unary : Of 65
  unfolding grammar
  of_unary = closes_class 65 PLAIN_UNARIES refl

  of_binary : Of 66
  unfolding grammar
  of_binary = closes_class 66 BINARIES refl

  of_branding : Of 67
  unfolding grammar
  of_branding = closes_class 67 BRANDINGS refl

  of_label : Of 68
  unfolding grammar
  of_label = closes_class 68 LABELS refl

  pub closed : AllClose K (act ts) (words.words ts) 0 grammar
  unfolding grammar
  closed =
      of_query & of_defines & of_end & of_expr & of_selection & of_sources & of_bindings & of_binding & of_filter &
      of_order & of_keys & of_key & of_direction & of_q & of_q_but_distinct & of_q_head & of_exists_rest &
      of_or_but_exists & of_and_but_exists & of_not_but_exists & of_rel_but_exists & of_sets_but_exists &
      of_sum_but_exists & of_product_but_exists & of_neg_but_exists & of_path_but_exists & of_or_but_both &
      of_and_but_both & of_not_but_both & of_rel_but_both & of_sets_but_both & of_sum_but_both & of_product_but_both &
      of_neg_but_both & of_path_but_both & of_and & of_not & of_rel & of_sets & of_sum & of_product & of_neg &
      of_path & of_or_tail & of_and_tail & of_rel_tail & of_sets_tail & of_sum_tail & of_product_tail & of_divisor &
      of_path_tail & of_atom & of_atom_but_exists & of_atom_but_both & of_fields & of_more_fields & of_field &
      of_members & of_more_members & of_whole & of_constant & of_set & of_add & of_division & of_test & of_unary &
      of_binary & of_branding & of_label & tt
