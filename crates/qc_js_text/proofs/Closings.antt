-- Each alternative of the table makes a tree with its lexemes.
use Rattle.std.proofs.Common.{◌≡◌, ℕ, suc, ◌+◌, false, not, List, [], ◌∷◌, ◌++◌, map, refl, sym, ap}
use Rattle.std.proofs.Common.{◌∙◌}
use Rattle.std.proofs.Common.{subst, slice_get, Some}
use Rattle.qc_grammar.specs.inner.Derivations.{alternatives}
use Rattle.qc_grammar.proofs.Walks.{Closes, AllClose}
use Rattle.qc_js.specs.declared.tree.Expr.{Expr}
use Rattle.qc_js.specs.declared.tree.Expr.TheVariants as expr
use Rattle.qc_js.specs.declared.tree.Stmt.{Stmt}
use Rattle.qc_js.specs.declared.tree.Stmt.TheVariants as stmt
use Rattle.qc_js.specs.Held.{all_true}
use Rattle.qc_js.specs.WellFormed.{is_bare}
use Rattle.qc_js.proofs.Tests.{both}
use Rattle.qc_js_lex.specs.declared.lexeme.Lexeme.{Lexeme}
use Rattle.qc_js_lex.specs.declared.lexeme.Lexeme.TheVariants.{Var, Fixed}
use Rattle.qc_js_lex.specs.Lexemes.{kind}
use Rattle.qc_js_text.specs.declared.value.Value.TheVariants as value
use Rattle.qc_js_text.specs.Table.{grammar}
use Rattle.qc_js_text.specs.inner.Actions as actions
use Rattle.qc_js_text.specs.inner.Actions.{act, var_of, called_of, int_of, text_of}
use Rattle.qc_js_text.specs.inner.Trees as trees
use Rattle.qc_js_text.specs.inner.Trees.{expr_lexemes, stmt_lexemes, is_told, separated}
use Rattle.qc_js_text.specs.inner.Values.{rest, the_name, the_statements}
use Rattle.qc_js_text.proofs.Forms as forms
use Rattle.qc_js_text.proofs.Kepts as kepts
use Rattle.qc_js_text.proofs.Kepts.{Listed}
use Rattle.qc_js_text.proofs.Spans as spans
use Rattle.qc_js_text.proofs.Spans.{Spans, none}

-- a pair; of a long row of pairs each is one more name in the text
infixr 5 ◌&◌
abbrev ◌&◌ : {A B : Type 0} → A → B → A × B
a & b = (a, b)

-- an array of one member or more is not bare
listed_apart : (es : List Expr) (e : Expr) (more : List Expr) → es ≡ e ∷ more → is_bare (expr.Array es) ≡ false
listed_apart es e more q = ap (λ z. is_bare (expr.Array z)) q ∙ forms.bare-Array (e ∷ more)

module _ (ls : List Lexeme) where
  abbrev K : List ℕ
  K = map kind ls

  -- the alternatives of a rule are cases
  abbrev Of : ℕ → Type 0
  Of n = Closes K (act ls) (kepts.words ls) n (alternatives grammar n)

  -- a word or a mark before others
  put : {i j : ℕ} {xs : List Lexeme} (n : ℕ) → slice_get K i ≡ Some (n + 4) → Spans ls (suc i) xs j
      → Spans ls i (Fixed n ∷ xs) j
  put n e p = spans.join ls (spans.fixed ls n e) p

  -- a variable before others
  put_var : {i j : ℕ} {xs : List Lexeme} → slice_get K i ≡ Some 0 → Spans ls (suc i) xs j
      → Spans ls i (Var (var_of (slice_get ls i)) ∷ xs) j
  put_var e p = spans.join ls (spans.var ls e) p

  -- one tree before others
  put_expr : {i m j : ℕ} (e : Expr) {xs : List Lexeme} → Spans ls i (expr_lexemes e) m → Spans ls m xs j
      → Spans ls i (expr_lexemes e ++ xs) j
  put_expr e p q = spans.join ls p q

  as_expr : {i j : ℕ} (e : Expr) {xs : List Lexeme} → expr_lexemes e ≡ xs → Spans ls i xs j
      → Spans ls i (expr_lexemes e) j
  as_expr {i = i} {j = j} e q p = subst (λ z. Spans ls i z j) (sym q) p

  as_stmt : {i j : ℕ} (s : Stmt) {xs : List Lexeme} → stmt_lexemes s ≡ xs → Spans ls i xs j
      → Spans ls i (stmt_lexemes s) j
  as_stmt {i = i} {j = j} s q p = subst (λ z. Spans ls i z j) (sym q) p

  of_program : Of 0
  unfolding act actions.act_list actions.act_stmt grammar
  of_program = (
    (λ i s e1 e2 e3 e4 e5 e6 e7 e8 w e9 v e10 e11.
        let g = w.2 (suc (suc (suc (suc (suc (suc (suc (suc i)))))))) [] s
        (record { spans = none; told = refl }) refl in (
          record {
            end = suc (suc v.0);
            body = g.0;
            result = v.1;
            spans = put 0 e1 (put 1 e2 (put 15 e3 (put 2 e4 (put 21 e5 (put 3 e6 (put 16 e7 (put 17 e8
                (spans.join ls g.1.spans (put 4 e9 (put_expr v.1 v.2 (put 22 e10 (put 18 e11 none))))))))))));
            told = g.1.told;
          },
          refl,
          ap (λ z. value.Tree v.1 ∷ z) (sym g.2),
        )),
    tt,
  )

  of_statements : Of 1
  unfolding act actions.act_list actions.act_stmt grammar
  of_statements = (
    (λ i s w v. (
      (
        v.0,
        v.1,
        λ h ss r d q. v.2 h (ss ++ w.1 ∷ []) r (kepts.joined_more ls d w.2)
            (ap (λ z. value.Statements (the_statements z ++ w.1 ∷ []) ∷ rest z) q),
      ),
      refl,
      refl,
    )),
    (
      (λ i s. ((i, s, λ h x r d q. (x, d, q)), refl, refl)),
      tt,
    ),
  )

  of_statement : Of 2
  unfolding act actions.act_list actions.act_stmt grammar
  of_statement = (
    (λ i s e1 e2 e3. (
      (
        suc (suc (suc i)),
        stmt.Let (var_of (slice_get ls (suc i))),
        record {
          spans = as_stmt (stmt.Let (var_of (slice_get ls (suc i)))) (forms.stmt-Let (var_of (slice_get ls (suc i))))
              (put 5 e1 (put_var e2 (put 22 e3 none)));
          told = forms.told-Let (var_of (slice_get ls (suc i)));
        },
      ),
      refl,
      refl,
    )),
    (
      (λ i s e1 w.
          let g = w.2 (var_of (slice_get ls i)) s refl in (
            (w.0, g.statement, record { spans = as_stmt g.statement g.same (put_var e1 g.spans); told = g.told }),
            refl,
            sym g.stack,
          )),
      (
        (λ i s e1 e2 e3 w.
            let g = w.2 (var_of (slice_get ls (suc i))) s refl in (
              (
                w.0,
                g.statement,
                record {
                  spans = as_stmt g.statement g.same (put 6 e1 (put_var e2 (put 24 e3 g.spans)));
                  told = g.told;
                },
              ),
              refl,
              sym g.stack,
            )),
        (
          (λ i s e1 e2 e3 e4 e5 v e6 b. (
            (
              b.0,
              stmt.For (var_of (slice_get ls (suc (suc (suc i))))) v.1 b.1,
              record {
                spans = as_stmt (stmt.For (var_of (slice_get ls (suc (suc (suc i))))) v.1 b.1)
                    (forms.stmt-For (var_of (slice_get ls (suc (suc (suc i))))) v.1 b.1)
                    (put 8 e1 (put 15 e2 (put 6 e3 (put_var e4 (put 9 e5
                    (put_expr v.1 v.2 (put 16 e6 b.2.spans)))))));
                told = forms.told-For (var_of (slice_get ls (suc (suc (suc i))))) v.1 b.1 ∙ b.2.told;
              },
            ),
            refl,
            refl,
          )),
          (
            (λ i s e1 e2 v e3 b e4 c. (
              (
                c.0,
                stmt.If v.1 b.1 c.1,
                record {
                  spans = as_stmt (stmt.If v.1 b.1 c.1) (forms.stmt-If v.1 b.1 c.1)
                      (put 10 e1 (put 15 e2 (put_expr v.1 v.2 (put 16 e3
                      (spans.join ls b.2.spans (put 11 e4 c.2.spans))))));
                  told = forms.told-If v.1 b.1 c.1
                      ∙ both (all_true (map is_told b.1)) (all_true (map is_told c.1)) b.2.told c.2.told;
                },
              ),
              refl,
              refl,
            )),
            (
              (λ i s b. (
                (
                  b.0,
                  stmt.Block b.1,
                  record {
                    spans = as_stmt (stmt.Block b.1) (forms.stmt-Block b.1) b.2.spans;
                    told = forms.told-Block b.1 ∙ b.2.told;
                  },
                ),
                refl,
                refl,
              )),
              tt,
            ),
          ),
        ),
      ),
    ),
  )

  of_use : Of 3
  unfolding act actions.act_list actions.act_stmt grammar
  of_use = (
    (λ i s e1 v e2. (
      (
        suc v.0,
        actions.set_one (value.Tree v.1 ∷ s),
        λ x r q. record {
          statement = stmt.Set x v.1;
          tail = trees.equals ∷ (expr_lexemes v.1 ++ trees.semicolon ∷ []);
          spans = put 24 e1 (put_expr v.1 v.2 (put 22 e2 none));
          same = forms.stmt-Set x v.1;
          told = forms.told-Set x v.1;
          stack = ap (λ z. actions.set_one (value.Tree v.1 ∷ z)) q;
        },
      ),
      refl,
      refl,
    )),
    (
      (λ i s e1 e2 e3 v e4 e5. (
        (
          suc (suc v.0),
          actions.push_one (value.Tree v.1 ∷ s),
          λ x r q. record {
            statement = stmt.Push x v.1;
            tail = trees.dot ∷ trees.push_word ∷ trees.open_paren
                ∷ (expr_lexemes v.1 ++ trees.close_paren ∷ trees.semicolon ∷ []);
            spans = put 23 e1 (put 7 e2 (put 15 e3 (put_expr v.1 v.2 (put 16 e4 (put 22 e5 none)))));
            same = forms.stmt-Push x v.1;
            told = forms.told-Push x v.1;
            stack = ap (λ z. actions.push_one (value.Tree v.1 ∷ z)) q;
          },
        ),
        refl,
        refl,
      )),
      tt,
    ),
  )

  of_constant : Of 4
  unfolding act actions.act_list actions.act_stmt grammar
  of_constant = (
    (λ i s v e1. (
      (
        suc v.0,
        actions.const_one (value.Tree v.1 ∷ s),
        λ x r q. record {
          statement = stmt.Const x v.1;
          tail = expr_lexemes v.1 ++ trees.semicolon ∷ [];
          spans = put_expr v.1 v.2.spans (put 22 e1 none);
          same = forms.stmt-Const x v.1;
          told = forms.told-Const x v.1 ∙ ap (λ z. not z) v.2.apart;
          stack = ap (λ z. actions.const_one (value.Tree v.1 ∷ z)) q;
        },
      ),
      refl,
      refl,
    )),
    (
      (λ i s e1 w. (
        (
          w.0,
          w.1,
          λ x r q.
              let g = w.2 x r q in record {
                statement = g.statement;
                tail = trees.open_square ∷ g.tail;
                spans = put 19 e1 g.spans;
                same = g.same;
                told = g.told;
                stack = g.stack;
              },
        ),
        refl,
        refl,
      )),
      tt,
    ),
  )

  of_square : Of 5
  unfolding act actions.act_list actions.act_stmt grammar
  of_square = (
    (λ i s e1 e2 b. (
      (
        b.0,
        actions.collect_one (value.Statements b.1 ∷ s),
        λ x r q. record {
          statement = stmt.Collect x b.1;
          tail = trees.close_square ∷ trees.semicolon ∷ trees.block_lexemes (map stmt_lexemes b.1);
          spans = put 20 e1 (put 22 e2 b.2.spans);
          same = forms.stmt-Collect x b.1;
          told = forms.told-Collect x b.1 ∙ b.2.told;
          stack = ap (λ z. actions.collect_one (value.Statements b.1 ∷ z)) q;
        },
      ),
      refl,
      refl,
    )),
    (
      (λ i s v w e1 e2.
          let g = w.2 i (v.1 ∷ []) s (kepts.listed_one ls v.1 v.2) refl in (
            (
              suc (suc w.0),
              actions.const_one (actions.array w.1),
              λ x r q. record {
                statement = stmt.Const x (expr.Array g.0);
                tail = (separated (map expr_lexemes g.0) ++ trees.close_square ∷ []) ++ trees.semicolon ∷ [];
                spans = spans.join ls (spans.join ls g.1.spans (put 20 e1 none)) (put 22 e2 none);
                same = forms.stmt-Const x (expr.Array g.0)
                    ∙ ap (λ z. trees.const_word ∷ Var x ∷ trees.equals ∷ (z ++ trees.semicolon ∷ []))
                    (forms.expr-Array g.0);
                told = forms.told-Const x (expr.Array g.0)
                    ∙ ap (λ z. not z) (listed_apart g.0 g.1.first g.1.more g.1.same);
                stack = ap (λ z. actions.const_one (actions.array z)) g.2
                    ∙ ap (λ z. value.Statement (stmt.Const (the_name z) (expr.Array g.0)) ∷ rest z) q;
              },
            ),
            refl,
            refl,
          )),
      tt,
    ),
  )

  of_block : Of 6
  unfolding act actions.act_list actions.act_stmt grammar
  of_block = (
    (λ i s e1 w e2.
        let g = w.2 (suc i) [] s (record { spans = none; told = refl }) refl in (
          (
            suc w.0,
            g.0,
            record { spans = put 17 e1 (spans.join ls g.1.spans (put 18 e2 none)); told = g.1.told },
          ),
          refl,
          sym g.2,
        )),
    tt,
  )

  of_e : Of 7
  unfolding act actions.act_list actions.act_stmt grammar
  of_e = (
    (λ i s w. ((w.0, w.1, w.2.spans), refl, refl)),
    (
      (λ i s e1 w.
          let g = w.2 s refl in (
            (
              w.0,
              expr.Array g.members,
              as_expr (expr.Array g.members) (forms.expr-Array g.members)
                  (put 19 e1 g.spans),
            ),
            refl,
            sym (ap (λ z. actions.array z) g.stack),
          )),
      tt,
    ),
  )

  of_members : Of 8
  unfolding act actions.act_list actions.act_stmt grammar
  of_members = (
    (λ i s e1. (
      (suc i, s, λ r q. record { members = []; spans = put 20 e1 none; stack = q }),
      refl,
      refl,
    )),
    (
      (λ i s v w e1. (
        (
          suc w.0,
          w.1,
          λ r q.
              let g = w.2 i (v.1 ∷ []) r (kepts.listed_one ls v.1 v.2)
              (ap (λ z. actions.item (value.Tree v.1 ∷ z)) q) in
              record { members = g.0; spans = spans.join ls g.1.spans (put 20 e1 none); stack = g.2 },
        ),
        refl,
        refl,
      )),
      tt,
    ),
  )

  of_arguments : Of 9
  unfolding act actions.act_list actions.act_stmt grammar
  of_arguments = (
    (λ i s e1. (
      (suc i, s, λ r q. record { members = []; spans = put 16 e1 none; stack = q }),
      refl,
      refl,
    )),
    (
      (λ i s v w e1. (
        (
          suc w.0,
          w.1,
          λ r q.
              let g = w.2 i (v.1 ∷ []) r (kepts.listed_one ls v.1 v.2)
              (ap (λ z. actions.item (value.Tree v.1 ∷ z)) q) in
              record { members = g.0; spans = spans.join ls g.1.spans (put 16 e1 none); stack = g.2 },
        ),
        refl,
        refl,
      )),
      tt,
    ),
  )

  of_items : Of 10
  unfolding act actions.act_list actions.act_stmt grammar
  of_items = (
    (λ i s e1 v w. (
      (
        w.0,
        w.1,
        λ h es r d q. w.2 h (es ++ v.1 ∷ []) r (kepts.listed_more ls v.1 d (put 21 e1 none) v.2)
            (ap (λ z. actions.item (value.Tree v.1 ∷ z)) q),
      ),
      refl,
      refl,
    )),
    (
      (λ i s. ((i, s, λ h x r d q. (x, d, q)), refl, refl)),
      tt,
    ),
  )

  of_simple : Of 11
  unfolding act actions.act_list actions.act_stmt grammar
  of_simple = (
    (λ i s e1. (
      (
        suc i,
        expr.Var (var_of (slice_get ls i)),
        record {
          spans = as_expr (expr.Var (var_of (slice_get ls i))) (forms.expr-Var (var_of (slice_get ls i)))
              (spans.var ls e1);
          apart = forms.bare-Var (var_of (slice_get ls i));
        },
      ),
      refl,
      refl,
    )),
    (
      (λ i s e1. (
        (
          suc i,
          expr.World,
          record {
            spans = as_expr expr.World forms.expr-World (put 2 e1 none);
            apart = forms.bare-World;
          },
        ),
        refl,
        refl,
      )),
      (
        (λ i s e1. (
          (
            suc i,
            expr.True,
            record {
              spans = as_expr expr.True forms.expr-True (put 12 e1 none);
              apart = forms.bare-True;
            },
          ),
          refl,
          refl,
        )),
        (
          (λ i s e1. (
            (
              suc i,
              expr.False,
              record {
                spans = as_expr expr.False forms.expr-False (put 13 e1 none);
                apart = forms.bare-False;
              },
            ),
            refl,
            refl,
          )),
          (
            (λ i s e1. (
              (
                suc i,
                expr.Null,
                record {
                  spans = as_expr expr.Null forms.expr-Null (put 14 e1 none);
                  apart = forms.bare-Null;
                },
              ),
              refl,
              refl,
            )),
            (
              (λ i s e1. (
                (
                  suc i,
                  expr.Int (int_of (slice_get ls i)),
                  record {
                    spans = as_expr (expr.Int (int_of (slice_get ls i)))
                        (forms.expr-Int (int_of (slice_get ls i))) (spans.int ls e1);
                    apart = forms.bare-Int (int_of (slice_get ls i));
                  },
                ),
                refl,
                refl,
              )),
              (
                (λ i s e1. (
                  (
                    suc i,
                    expr.Text (text_of (slice_get ls i)),
                    record {
                      spans = as_expr (expr.Text (text_of (slice_get ls i)))
                          (forms.expr-Text (text_of (slice_get ls i))) (spans.text ls e1);
                      apart = forms.bare-Text (text_of (slice_get ls i));
                    },
                  ),
                  refl,
                  refl,
                )),
                (
                  (λ i s e1 e2 e3 e4 w.
                      let f = called_of (slice_get ls (suc (suc i))) in
                      let g = w.2 (value.Function f ∷ s) refl in (
                        (
                          w.0,
                          expr.Call f g.members,
                          record {
                            spans = as_expr (expr.Call f g.members) (forms.expr-Call f g.members)
                                (put 3 e1 (put 23 e2 (spans.join ls (spans.function ls e3) (put 15 e4 g.spans))));
                            apart = forms.bare-Call f g.members;
                          },
                        ),
                        refl,
                        sym (ap (λ z. actions.call z) g.stack),
                      )),
                  tt,
                ),
              ),
            ),
          ),
        ),
      ),
    ),
  )

  pub closed : AllClose K (act ls) (kepts.words ls) 0 grammar
  unfolding grammar
  closed =
      of_program & of_statements & of_statement & of_use & of_constant & of_square & of_block & of_e & of_members &
      of_arguments & of_items & of_simple & tt
