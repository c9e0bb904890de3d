-- The lexemes of each tree are a word of the table, whose actions make the tree.
use Rattle.std.proofs.Common.{◌≡◌, ◌⊎◌, inl, inr, ℕ, ℤ, suc, ◌+◌, Bool, true, false, not, List, [], ◌∷◌, ◌++◌}
use Rattle.std.proofs.Common.{map}
use Rattle.std.proofs.Common.{refl, sym, ap, ◌∙◌, subst, slice_get, Some, append_assoc, append-nil}
use Rattle.std.specs.List.{AllByRecursion}
use Rattle.qc_grammar.specs.declared.symbol.Symbol.{Symbol}
use Rattle.qc_grammar.specs.declared.symbol.Symbol.TheVariants.{Token, Rule, Action}
use Rattle.qc_grammar.specs.inner.Derivations.{alternatives}
use Rattle.qc_grammar.proofs.Walks as walks
use Rattle.qc_grammar.proofs.Walks.{Walks, done, here, acts, goes}
use Rattle.qc_rt.specs.declared.function.Rt.{Rt}
use Rattle.qc_js.specs.declared.tree.Expr.{Expr}
use Rattle.qc_js.specs.declared.tree.Expr.TheOpen.{Expr-F}
use Rattle.qc_js.specs.declared.tree.Expr.TheViews.{roll-Expr}
use Rattle.qc_js.specs.declared.tree.Expr.TheFolds.{map-Expr, ind-Expr}
use Rattle.qc_js.specs.declared.tree.Expr.TheVariants as expr
use Rattle.qc_js.specs.declared.tree.Stmt.{Stmt}
use Rattle.qc_js.specs.declared.tree.Stmt.TheOpen.{Stmt-F}
use Rattle.qc_js.specs.declared.tree.Stmt.TheViews.{roll-Stmt}
use Rattle.qc_js.specs.declared.tree.Stmt.TheFolds.{map-Stmt, ind-Stmt}
use Rattle.qc_js.specs.declared.tree.Stmt.TheVariants as stmt
use Rattle.qc_js.specs.declared.tree.Program.{Program}
use Rattle.qc_js.specs.Held.{all_true}
use Rattle.qc_js.specs.WellFormed.{is_bare}
use Rattle.qc_js.proofs.Tests.{both-left, both-right}
use Rattle.qc_js_lex.specs.declared.lexeme.Lexeme.{Lexeme}
use Rattle.qc_js_lex.specs.declared.lexeme.Lexeme.TheVariants.{Var, Fixed}
use Rattle.qc_js_lex.specs.Lexemes.{kind}
use Rattle.qc_js_text.specs.declared.value.Value.TheVariants as value
use Rattle.qc_js_text.specs.Table as table
use Rattle.qc_js_text.specs.Table.{grammar}
use Rattle.qc_js_text.specs.inner.Actions as actions
use Rattle.qc_js_text.specs.inner.Actions.{act, var_of, called_of, int_of, text_of}
use Rattle.qc_js_text.specs.inner.Trees as trees
use Rattle.qc_js_text.specs.inner.Trees.{expr_lexemes, stmt_lexemes, is_told, separated, after_commas, joined}
use Rattle.qc_js_text.specs.inner.Values.{Values}
use Rattle.qc_js_text.proofs.Forms as forms
use Rattle.qc_js_text.proofs.Spans as spans
use Rattle.qc_js_text.proofs.Spans.{Spans}

module _ (ls : List Lexeme) where
  abbrev K : List ℕ
  K = map kind ls

  abbrev W : ℕ → List Symbol → Values → ℕ → Values → Type 0
  W i σ s j t = Walks grammar K (act ls) i σ s j t

  then : {i m j n : ℕ} {σ : List Symbol} {s r t : Values} → W i (Rule n ∷ []) s m r → W m σ r j t
      → W i (Rule n ∷ σ) s j t
  then {i = i} {m = m} {j = j} {n = n} {σ = σ} {s = s} {r = r} {t = t} w v =
      walks.both grammar K (act ls) i m j (Rule n ∷ []) σ s r t w v

  -- by the alternative of this number
  by : {i j n : ℕ} {body : List Symbol} {s t : Values} (p : ℕ) → slice_get (alternatives grammar n) p ≡ Some body
      → W i body s j t → W i (Rule n ∷ []) s j t
  by p e w = goes (record { number = p; found = e }) w done

  -- nothing is left
  stop : {i j : ℕ} {s : Values} → Spans ls i [] j → W i [] s j s
  stop {i = i} {s = s} p = subst (λ z. W i [] s z s) (spans.ended ls p) done

  -- the kind of the lexeme here
  at : {i j : ℕ} {x : Lexeme} {xs : List Lexeme} → Spans ls i (x ∷ xs) j → slice_get K i ≡ Some (kind x)
  at {i = i} {x = x} p = spans.kind_at ls i x (spans.head ls p).here

  -- what is behind it
  past : {i j : ℕ} {x : Lexeme} {xs : List Lexeme} → Spans ls i (x ∷ xs) j → Spans ls (suc i) xs j
  past p = (spans.head ls p).more

  -- ---- expressions

  -- the tree is put on the stack by the rule
  abbrev Puts : ℕ → Expr → Type 0
  Puts n e = (i j : ℕ) (s : Values) → Spans ls i (expr_lexemes e) j → W i (Rule n ∷ []) s j (value.Tree e ∷ s)

  abbrev Any : Expr → Type 0
  Any e = Puts table.rule_e e

  -- an expression that is no array, or an array
  abbrev P : Expr → Type 0
  P e = Puts table.rule_simple e ⊎ ((es : List Expr) × (e ≡ expr.Array es) × AllByRecursion Any es)

  items : (es : List Expr) → AllByRecursion Any es → (i j : ℕ) (xs : List Expr) (r : Values)
      → Spans ls i (after_commas (map expr_lexemes es)) j
      → W i (Rule table.rule_items ∷ []) (value.Members xs ∷ r) j (value.Members (xs ++ es) ∷ r)
  unfolding act actions.act_list actions.act_stmt grammar
  items [] h i j xs r p =
      subst (λ z. W i (Rule table.rule_items ∷ []) (value.Members xs ∷ r) j (value.Members z ∷ r))
      (sym (append-nil xs)) (by 1 refl (stop p))
  items (e ∷ es) h i j xs r p =
      let q = spans.split ls (expr_lexemes e) (past p) in
      subst (λ z. W i (Rule table.rule_items ∷ []) (value.Members xs ∷ r) j (value.Members z ∷ r))
      (append_assoc xs (e ∷ []) es)
      (by 0 refl (here (at p) (then (h.0 (suc i) q.place _ q.first)
      (acts (items es h.1 q.place j (xs ++ e ∷ []) r q.second)))))

  -- the alternatives of what stands between brackets
  abbrev closing : ℕ → List Symbol
  closing m = Token (m + 4) ∷ []

  abbrev more : ℕ → List Symbol
  more m = Rule table.rule_e ∷ Action table.DO_ITEM ∷ Rule table.rule_items ∷ Token (m + 4) ∷ []

  -- what stands between brackets, and the closing one
  between : (n m : ℕ) → slice_get (alternatives grammar n) 0 ≡ Some (closing m)
      → slice_get (alternatives grammar n) 1 ≡ Some (more m)
      → (es : List Expr) → AllByRecursion Any es → (i j : ℕ) (r : Values)
      → Spans ls i (separated (map expr_lexemes es) ++ Fixed m ∷ []) j
      → W i (Rule n ∷ []) (value.Members [] ∷ r) j (value.Members es ∷ r)
  unfolding act actions.act_list actions.act_stmt
  between n m f g [] h i j r p = by 0 f (here (at p) (stop (past p)))
  between n m f g (e ∷ es) h i j r p =
      let a = spans.split ls (expr_lexemes e ++ after_commas (map expr_lexemes es)) p in
      let b = spans.split ls (expr_lexemes e) a.first in
      by 1 g (then (h.0 i b.place _ b.first) (acts
      (then (items es h.1 b.place a.place (e ∷ []) r b.second) (here (at a.second) (stop (past a.second))))))

  members : (es : List Expr) → AllByRecursion Any es → (i j : ℕ) (r : Values)
      → Spans ls i (separated (map expr_lexemes es) ++ trees.close_square ∷ []) j
      → W i (Rule table.rule_members ∷ []) (value.Members [] ∷ r) j (value.Members es ∷ r)
  unfolding grammar
  members = between table.rule_members 20 refl refl

  arguments : (es : List Expr) → AllByRecursion Any es → (i j : ℕ) (r : Values)
      → Spans ls i (separated (map expr_lexemes es) ++ trees.close_paren ∷ []) j
      → W i (Rule table.rule_arguments ∷ []) (value.Members [] ∷ r) j (value.Members es ∷ r)
  unfolding grammar
  arguments = between table.rule_arguments 16 refl refl

  array : (es : List Expr) → AllByRecursion Any es → Any (expr.Array es)
  unfolding act actions.act_list actions.act_stmt grammar
  array es h i j s p =
      let q = subst (λ z. Spans ls i z j) (forms.expr-Array es) p in
      by 1 refl (here (at q) (acts (then (members es h (suc i) j s (past q)) (acts done))))

  any_of : (e : Expr) → P e → Any e
  unfolding grammar
  any_of e (inl w) i j s p = by 0 refl (then (w i j s p) done)
  any_of e (inr a) i j s p =
      subst (λ z. W i (Rule table.rule_e ∷ []) s j (value.Tree z ∷ s)) (sym a.1)
      (array a.0 a.2 i j s (subst (λ z. Spans ls i (expr_lexemes z) j) a.1 p))

  at_var : (x : ℕ) → Puts table.rule_simple (expr.Var x)
  unfolding act actions.act_list actions.act_stmt grammar
  at_var x i j s p =
      let q = subst (λ z. Spans ls i z j) (forms.expr-Var x) p in
      let e : var_of (slice_get ls i) ≡ x = ap var_of (spans.head ls q).here in
      subst (λ z. W i (Rule table.rule_simple ∷ []) s j (value.Tree (expr.Var z) ∷ s)) e
      (by 0 refl (here (at q) (acts (stop (past q)))))

  at_word : (m n : ℕ) (e : Expr) (body : List Symbol) → slice_get (alternatives grammar table.rule_simple) m ≡ Some body
      → expr_lexemes e ≡ Fixed n ∷ []
      → ((i j : ℕ) (s : Values) → slice_get K i ≡ Some (n + 4) → Spans ls (suc i) [] j
      → W i body s j (value.Tree e ∷ s)) → Puts table.rule_simple e
  at_word m n e body f l w i j s p =
      let q = subst (λ z. Spans ls i z j) l p in by m f (w i j s (at q) (past q))

  at_world : Puts table.rule_simple expr.World
  unfolding act actions.act_list actions.act_stmt grammar
  at_world = at_word 1 2 expr.World _ refl forms.expr-World (λ i j s k q. here k (acts (stop q)))

  at_true : Puts table.rule_simple expr.True
  unfolding act actions.act_list actions.act_stmt grammar
  at_true = at_word 2 12 expr.True _ refl forms.expr-True (λ i j s k q. here k (acts (stop q)))

  at_false : Puts table.rule_simple expr.False
  unfolding act actions.act_list actions.act_stmt grammar
  at_false = at_word 3 13 expr.False _ refl forms.expr-False (λ i j s k q. here k (acts (stop q)))

  at_null : Puts table.rule_simple expr.Null
  unfolding act actions.act_list actions.act_stmt grammar
  at_null = at_word 4 14 expr.Null _ refl forms.expr-Null (λ i j s k q. here k (acts (stop q)))

  at_int : (n : ℤ) → Puts table.rule_simple (expr.Int n)
  unfolding act actions.act_list actions.act_stmt grammar
  at_int n i j s p =
      let q = subst (λ z. Spans ls i z j) (forms.expr-Int n) p in
      let e : int_of (slice_get ls i) ≡ n = ap int_of (spans.head ls q).here in
      subst (λ z. W i (Rule table.rule_simple ∷ []) s j (value.Tree (expr.Int z) ∷ s)) e
      (by 5 refl (here (at q) (acts (stop (past q)))))

  at_text : (t : List ℕ) → Puts table.rule_simple (expr.Text t)
  unfolding act actions.act_list actions.act_stmt grammar
  at_text t i j s p =
      let q = subst (λ z. Spans ls i z j) (forms.expr-Text t) p in
      let e : text_of (slice_get ls i) ≡ t = ap text_of (spans.head ls q).here in
      subst (λ z. W i (Rule table.rule_simple ∷ []) s j (value.Tree (expr.Text z) ∷ s)) e
      (by 6 refl (here (at q) (acts (stop (past q)))))

  at_call : (f : Rt) (es : List Expr) → AllByRecursion Any es → Puts table.rule_simple (expr.Call f es)
  unfolding act actions.act_list actions.act_stmt grammar
  at_call f es h i j s p =
      let q1 = subst (λ z. Spans ls i z j) (forms.expr-Call f es) p in
      let q2 = past q1 in
      let q3 = past q2 in
      let q4 = past q3 in
      let q5 = past q4 in
      let e : called_of (slice_get ls (suc (suc i))) ≡ f = ap called_of (spans.head ls q3).here in
      subst (λ z. W i (Rule table.rule_simple ∷ []) s j (value.Tree (expr.Call z es) ∷ s)) e
      (by 7 refl (here (at q1) (here (at q2) (here (at q3) (acts (here (at q4) (acts
      (then (arguments es h _ j _ q5) (acts done)))))))))

  abbrev E : Type 0
  E = (e : Expr) × P e

  each : (ws : List E) → AllByRecursion Any (map (λ (w : E). w.0) ws)
  each [] = tt
  each (w ∷ ws) = (any_of w.0 w.1, each ws)

  layer : (w : Expr-F E) → P (roll-Expr (map-Expr E Expr (λ e. e.0) w))
  layer (Expr-F.Var x) = subst P (sym (expr.rolls-Var x)) (inl (at_var x))
  layer Expr-F.World = subst P (sym expr.rolls-World) (inl at_world)
  layer Expr-F.True = subst P (sym expr.rolls-True) (inl at_true)
  layer Expr-F.False = subst P (sym expr.rolls-False) (inl at_false)
  layer Expr-F.Null = subst P (sym expr.rolls-Null) (inl at_null)
  layer (Expr-F.Int n) = subst P (sym (expr.rolls-Int n)) (inl (at_int n))
  layer (Expr-F.Text t) = subst P (sym (expr.rolls-Text t)) (inl (at_text t))
  layer (Expr-F.Array ws) =
      subst P (sym (expr.rolls-Array (map (λ (w : E). w.0) ws))) (inr (map (λ (w : E). w.0) ws, refl, each ws))
  layer (Expr-F.Call f ws) =
      subst P (sym (expr.rolls-Call f (map (λ (w : E). w.0) ws))) (inl (at_call f _ (each ws)))

  walked : (e : Expr) → P e
  walked = ind-Expr P (λ x w is. rw (← is) (layer w))

  expression : (e : Expr) → Any e
  expression e = any_of e (walked e)

  all_walked : (es : List Expr) → AllByRecursion Any es
  all_walked [] = tt
  all_walked (e ∷ es) = (expression e, all_walked es)

  -- ---- statements

  abbrev States : Stmt → Type 0
  States x = (i j : ℕ) (s : Values) → Spans ls i (stmt_lexemes x) j
      → W i (Rule table.rule_statement ∷ []) s j (value.Statement x ∷ s)

  abbrev Q : Stmt → Type 0
  Q x = is_told x ≡ true → States x

  statements : (xs : List Stmt) → AllByRecursion Q xs → all_true (map is_told xs) ≡ true
      → (i j : ℕ) (ss : List Stmt) (r : Values) → Spans ls i (joined (map stmt_lexemes xs)) j
      → W i (Rule table.rule_statements ∷ []) (value.Statements ss ∷ r) j (value.Statements (ss ++ xs) ∷ r)
  unfolding act actions.act_list actions.act_stmt grammar
  statements [] h t i j ss r p =
      subst (λ z. W i (Rule table.rule_statements ∷ []) (value.Statements ss ∷ r) j (value.Statements z ∷ r))
      (sym (append-nil ss)) (by 1 refl (stop p))
  statements (x ∷ xs) h t i j ss r p =
      let q = spans.split ls (stmt_lexemes x) p in
      let a : is_told x ≡ true = both-left (is_told x) (all_true (map is_told xs)) t in
      let b : all_true (map is_told xs) ≡ true = both-right (is_told x) (all_true (map is_told xs)) t in
      subst (λ z. W i (Rule table.rule_statements ∷ []) (value.Statements ss ∷ r) j (value.Statements z ∷ r))
      (append_assoc ss (x ∷ []) xs)
      (by 0 refl (then (h.0 a i q.place _ q.first)
      (acts (statements xs h.1 b q.place j (ss ++ x ∷ []) r q.second))))

  block : (xs : List Stmt) → AllByRecursion Q xs → all_true (map is_told xs) ≡ true → (i j : ℕ) (s : Values)
      → Spans ls i (trees.block_lexemes (map stmt_lexemes xs)) j
      → W i (Rule table.rule_block ∷ []) s j (value.Statements xs ∷ s)
  unfolding act actions.act_list actions.act_stmt grammar
  block xs h t i j s p =
      let q = spans.split ls (joined (map stmt_lexemes xs)) (past p) in
      by 0 refl (here (at p) (acts (then (statements xs h t (suc i) q.place [] s q.first)
      (here (at q.second) (stop (past q.second))))))

  -- the variable here
  named : {i j : ℕ} {x : ℕ} {xs : List Lexeme} → Spans ls i (Var x ∷ xs) j → var_of (slice_get ls i) ≡ x
  named q = ap var_of (spans.head ls q).here

  at_let : (x : ℕ) → States (stmt.Let x)
  unfolding act actions.act_list actions.act_stmt grammar
  at_let x i j s p =
      let q1 = subst (λ z. Spans ls i z j) (forms.stmt-Let x) p in
      let q2 = past q1 in
      let q3 = past q2 in
      subst (λ z. W i (Rule table.rule_statement ∷ []) s j (value.Statement (stmt.Let z) ∷ s)) (named q2)
      (by 0 refl (here (at q1) (here (at q2) (acts (here (at q3) (acts (stop (past q3))))))))

  at_set : (x : ℕ) (e : Expr) → States (stmt.Set x e)
  unfolding act actions.act_list actions.act_stmt grammar
  at_set x e i j s p =
      let q1 = subst (λ z. Spans ls i z j) (forms.stmt-Set x e) p in
      let q2 = past q1 in
      let q3 = spans.split ls (expr_lexemes e) (past q2) in
      subst (λ z. W i (Rule table.rule_statement ∷ []) s j (value.Statement (stmt.Set z e) ∷ s)) (named q1)
      (by 1 refl (here (at q1) (acts (then
      (by 0 refl (here (at q2) (then (expression e _ q3.place _ q3.first)
      (here (at q3.second) (acts (stop (past q3.second))))))) done))))

  at_push : (x : ℕ) (e : Expr) → States (stmt.Push x e)
  unfolding act actions.act_list actions.act_stmt grammar
  at_push x e i j s p =
      let q1 = subst (λ z. Spans ls i z j) (forms.stmt-Push x e) p in
      let q2 = past q1 in
      let q3 = past q2 in
      let q4 = past q3 in
      let q5 = spans.split ls (expr_lexemes e) (past q4) in
      let q6 = past q5.second in
      subst (λ z. W i (Rule table.rule_statement ∷ []) s j (value.Statement (stmt.Push z e) ∷ s)) (named q1)
      (by 1 refl (here (at q1) (acts (then
      (by 1 refl (here (at q2) (here (at q3) (here (at q4) (then (expression e _ q5.place _ q5.first)
      (here (at q5.second) (here (at q6) (acts (stop (past q6)))))))))) done))))

  -- a constant that is an array of one member or more, behind its name
  written : (x : ℕ) (e : Expr) (es : List Expr) → e ≡ expr.Array es → AllByRecursion Any es → is_bare e ≡ false
      → (i j : ℕ) (s : Values) → Spans ls i (expr_lexemes e ++ trees.semicolon ∷ []) j
      → W i (Rule table.rule_constant ∷ []) (value.Name x ∷ s) j (value.Statement (stmt.Const x e) ∷ s)
  unfolding act actions.act_list actions.act_stmt grammar
  written x e [] is h b i j s p =
      let f : true ≡ false = sym (forms.bare-Array []) ∙ ap is_bare (sym is) ∙ b in absurd cc
  written x e (d ∷ ds) is h b i j s p =
      let o = subst (λ z. Spans ls i (z ++ trees.semicolon ∷ []) j)
      (ap expr_lexemes is ∙ forms.expr-Array (d ∷ ds)) p in
      let q = spans.split ls (separated (map expr_lexemes (d ∷ ds)) ++ trees.close_square ∷ []) (past o) in
      let a = spans.split ls (expr_lexemes d ++ after_commas (map expr_lexemes ds)) q.first in
      let c = spans.split ls (expr_lexemes d) a.first in
      let r = subst (λ z. Spans ls z (trees.semicolon ∷ []) j) (sym (spans.ended ls (past a.second))) q.second in
      subst (λ z. W i (Rule table.rule_constant ∷ []) (value.Name x ∷ s) j (value.Statement (stmt.Const x z) ∷ s))
      (sym is)
      (by 1 refl (here (at o) (then (by 1 refl (acts (then (h.0 _ c.place _ c.first) (acts
      (then (items ds h.1 c.place a.place (d ∷ []) _ c.second) (here (at a.second)
      (acts (here (at r) (acts (stop (past r))))))))))) done)))

  -- a constant, behind its name
  constant : (x : ℕ) (e : Expr) → P e → is_bare e ≡ false → (i j : ℕ) (s : Values)
      → Spans ls i (expr_lexemes e ++ trees.semicolon ∷ []) j
      → W i (Rule table.rule_constant ∷ []) (value.Name x ∷ s) j (value.Statement (stmt.Const x e) ∷ s)
  unfolding act actions.act_list actions.act_stmt grammar
  constant x e (inl w) b i j s p =
      let q = spans.split ls (expr_lexemes e) p in
      by 0 refl (then (w i q.place _ q.first) (here (at q.second) (acts (stop (past q.second)))))
  constant x e (inr a) b i j s p = written x e a.0 a.1 a.2 b i j s p

  at_const : (x : ℕ) (e : Expr) → is_bare e ≡ false → States (stmt.Const x e)
  unfolding act actions.act_list actions.act_stmt grammar
  at_const x e b i j s p =
      let q1 = subst (λ z. Spans ls i z j) (forms.stmt-Const x e) p in
      let q2 = past q1 in
      let q3 = past q2 in
      by 2 refl (here (at q1) (here (at q2) (acts (here (at q3)
      (then (subst (λ z. W (suc (suc (suc i))) (Rule table.rule_constant ∷ []) (value.Name z ∷ s) j
      (value.Statement (stmt.Const x e) ∷ s))
      (sym (named q2)) (constant x e (walked e) b _ j s (past q3))) done)))))

  at_collect : (x : ℕ) (xs : List Stmt) → AllByRecursion Q xs → all_true (map is_told xs) ≡ true
      → States (stmt.Collect x xs)
  unfolding act actions.act_list actions.act_stmt grammar
  at_collect x xs h t i j s p =
      let q1 = subst (λ z. Spans ls i z j) (forms.stmt-Collect x xs) p in
      let q2 = past q1 in
      let q3 = past q2 in
      let q4 = past q3 in
      let q5 = past q4 in
      let q6 = past q5 in
      subst (λ z. W i (Rule table.rule_statement ∷ []) s j (value.Statement (stmt.Collect z xs) ∷ s)) (named q2)
      (by 2 refl (here (at q1) (here (at q2) (acts (here (at q3)
      (then (by 1 refl (here (at q4) (then (by 0 refl (here (at q5) (here (at q6)
      (then (block xs h t _ j _ (past q6)) (acts done))))) done))) done))))))

  at_for : (x : ℕ) (e : Expr) (xs : List Stmt) → AllByRecursion Q xs → all_true (map is_told xs) ≡ true
      → States (stmt.For x e xs)
  unfolding act actions.act_list actions.act_stmt grammar
  at_for x e xs h t i j s p =
      let q1 = subst (λ z. Spans ls i z j) (forms.stmt-For x e xs) p in
      let q2 = past q1 in
      let q3 = past q2 in
      let q4 = past q3 in
      let q5 = past q4 in
      let q6 = spans.split ls (expr_lexemes e) (past q5) in
      subst (λ z. W i (Rule table.rule_statement ∷ []) s j (value.Statement (stmt.For z e xs) ∷ s)) (named q4)
      (by 3 refl (here (at q1) (here (at q2) (here (at q3) (here (at q4) (acts (here (at q5)
      (then (expression e _ q6.place _ q6.first) (here (at q6.second)
      (then (block xs h t _ j _ (past q6.second)) (acts done)))))))))))

  at_if : (e : Expr) (xs ys : List Stmt) → AllByRecursion Q xs → AllByRecursion Q ys
      → all_true (map is_told xs) ≡ true → all_true (map is_told ys) ≡ true → States (stmt.If e xs ys)
  unfolding act actions.act_list actions.act_stmt grammar
  at_if e xs ys h k t u i j s p =
      let q1 = subst (λ z. Spans ls i z j) (forms.stmt-If e xs ys) p in
      let q2 = past q1 in
      let q3 = spans.split ls (expr_lexemes e) (past q2) in
      let q4 = spans.split ls (trees.block_lexemes (map stmt_lexemes xs)) (past q3.second) in
      by 4 refl (here (at q1) (here (at q2) (then (expression e _ q3.place _ q3.first) (here (at q3.second)
      (then (block xs h t _ q4.place _ q4.first) (here (at q4.second)
      (then (block ys k u _ j _ (past q4.second)) (acts done))))))))

  at_block : (xs : List Stmt) → AllByRecursion Q xs → all_true (map is_told xs) ≡ true → States (stmt.Block xs)
  unfolding act actions.act_list actions.act_stmt grammar
  at_block xs h t i j s p =
      by 5 refl (then (block xs h t i j s (subst (λ z. Spans ls i z j) (forms.stmt-Block xs) p)) (acts done))

  abbrev S : Type 0
  S = (x : Stmt) × Q x

  each_line : (ws : List S) → AllByRecursion Q (map (λ (w : S). w.0) ws)
  each_line [] = tt
  each_line (w ∷ ws) = (w.1, each_line ws)

  not_true : (b : Bool) → not b ≡ true → b ≡ false
  not_true true h = let f : false ≡ true = h in absurd cc
  not_true false h = refl

  stmt_layer : (w : Stmt-F S) → Q (roll-Stmt (map-Stmt S Stmt (λ x. x.0) w))
  stmt_layer (Stmt-F.Let x) = subst Q (sym (stmt.rolls-Let x)) (λ t. at_let x)
  stmt_layer (Stmt-F.Set x e) = subst Q (sym (stmt.rolls-Set x e)) (λ t. at_set x e)
  stmt_layer (Stmt-F.Const x e) =
      subst Q (sym (stmt.rolls-Const x e)) (λ t. at_const x e (not_true (is_bare e) (sym (forms.told-Const x e) ∙ t)))
  stmt_layer (Stmt-F.Collect x ws) =
      subst Q (sym (stmt.rolls-Collect x (map (λ (w : S). w.0) ws)))
      (λ t. at_collect x _ (each_line ws) (sym (forms.told-Collect x (map (λ (w : S). w.0) ws)) ∙ t))
  stmt_layer (Stmt-F.Push x e) = subst Q (sym (stmt.rolls-Push x e)) (λ t. at_push x e)
  stmt_layer (Stmt-F.For x e ws) =
      subst Q (sym (stmt.rolls-For x e (map (λ (w : S). w.0) ws)))
      (λ t. at_for x e _ (each_line ws) (sym (forms.told-For x e (map (λ (w : S). w.0) ws)) ∙ t))
  stmt_layer (Stmt-F.If e ws vs) =
      let xs = map (λ (w : S). w.0) ws in
      let ys = map (λ (w : S). w.0) vs in
      subst Q (sym (stmt.rolls-If e xs ys))
      (λ t. (let u = sym (forms.told-If e xs ys) ∙ t in at_if e xs ys (each_line ws) (each_line vs)
      (both-left (all_true (map is_told xs)) (all_true (map is_told ys)) u)
      (both-right (all_true (map is_told xs)) (all_true (map is_told ys)) u)))
  stmt_layer (Stmt-F.Block ws) =
      subst Q (sym (stmt.rolls-Block (map (λ (w : S). w.0) ws)))
      (λ t. at_block _ (each_line ws) (sym (forms.told-Block (map (λ (w : S). w.0) ws)) ∙ t))

  stated : (x : Stmt) → Q x
  stated = ind-Stmt Q (λ x w is. rw (← is) (stmt_layer w))

  all_stated : (xs : List Stmt) → AllByRecursion Q xs
  all_stated [] = tt
  all_stated (x ∷ xs) = (stated x, all_stated xs)

  -- ---- programs

  pub program : (p : Program) → all_true (map is_told p.body) ≡ true → (j : ℕ) → Spans ls 0 (trees.program_lexemes p) j
      → W 0 (Rule table.rule_program ∷ []) [] j (value.Tree p.result ∷ value.Statements p.body ∷ [])
  unfolding act actions.act_list actions.act_stmt grammar
  program p t j q1 =
      let q2 = past q1 in
      let q3 = past q2 in
      let q4 = past q3 in
      let q5 = past q4 in
      let q6 = past q5 in
      let q7 = past q6 in
      let q8 = past q7 in
      let a = spans.split ls (joined (map stmt_lexemes p.body)) (past q8) in
      let b = spans.split ls (expr_lexemes p.result) (past a.second) in
      let c = past b.second in
      by 0 refl (here (at q1) (here (at q2) (here (at q3) (here (at q4) (here (at q5) (here (at q6) (here (at q7)
      (here (at q8) (acts (then (statements p.body (all_stated p.body) t _ a.place [] _ a.first)
      (here (at a.second) (then (expression p.result _ b.place _ b.first)
      (here (at b.second) (here (at c) (stop (past c))))))))))))))))
