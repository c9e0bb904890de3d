-- What the words of each rule of the table are, and what they make of the stack.
use Rattle.std.proofs.Common.{◌≡◌, ℕ, suc, Bool, true, false, ◌&&◌, List, [], ◌∷◌, ◌++◌, map, refl, sym, ap, ◌∙◌, subst}
use Rattle.std.proofs.Common.{append_assoc}
use Rattle.qc_grammar.proofs.Walks.{Kept, AllKept, none, also}
use Rattle.qc_js.specs.declared.tree.Expr.{Expr}
use Rattle.qc_js.specs.declared.tree.Stmt.{Stmt}
use Rattle.qc_js.specs.Held.{all_true}
use Rattle.qc_js.specs.WellFormed.{is_bare}
use Rattle.qc_js_lex.specs.declared.lexeme.Lexeme.{Lexeme}
use Rattle.qc_js_lex.specs.declared.lexeme.Lexeme.TheVariants.{Var, Fixed}
use Rattle.qc_js_text.specs.declared.value.Value.{Value}
use Rattle.qc_js_text.specs.declared.value.Value.TheVariants as value
use Rattle.qc_js_text.specs.inner.Values.{Values}
use Rattle.qc_js_text.specs.inner.Trees as trees
use Rattle.qc_js_text.specs.inner.Trees.{expr_lexemes, stmt_lexemes, is_told, separated, after_commas, joined}
use Rattle.qc_js_text.proofs.Spans as spans
use Rattle.qc_js_text.proofs.Spans.{Spans}

-- a value on top of the stack
abbrev pub puts : {A : Type 0} → (A → Value) → (ℕ → ℕ → A → Type 0) → Kept Values
puts {A = A} put F = record {
  Word = λ i s. (j : ℕ) × (x : A) × F i j x;
  end = λ i s w. w.0;
  stack = λ i s w. put w.1 ∷ s;
}

-- of the value on top a longer one
abbrev pub grows : {A : Type 0} → (A → Value) → (ℕ → ℕ → A → Type 0) → Kept Values
grows {A = A} put F = record {
  Word = λ i s. (j : ℕ) × (t : Values) × ((h : ℕ) (x : A) (r : Values) → F h i x → s ≡ put x ∷ r
      → (y : A) × F h j y × (t ≡ put y ∷ r));
  end = λ i s w. w.0;
  stack = λ i s w. w.1;
}

-- an expression that is not bare
pub record Simple (ls : List Lexeme) (i j : ℕ) (e : Expr) : Type 0 where
  pub spans : Spans ls i (expr_lexemes e) j
  pub apart : is_bare e ≡ false

-- one expression or more, with commas between
pub record Listed (ls : List Lexeme) (i j : ℕ) (es : List Expr) : Type 0 where
  pub first : Expr
  pub more : List Expr
  pub same : es ≡ first ∷ more
  pub spans : Spans ls i (separated (map expr_lexemes es)) j

-- statements in order, without a bare constant
pub record Joined (ls : List Lexeme) (i j : ℕ) (ss : List Stmt) : Type 0 where
  pub spans : Spans ls i (joined (map stmt_lexemes ss)) j
  pub told : all_true (map is_told ss) ≡ true

-- a statement
pub record Stated (ls : List Lexeme) (i j : ℕ) (s : Stmt) : Type 0 where
  pub spans : Spans ls i (stmt_lexemes s) j
  pub told : is_told s ≡ true

-- a block
pub record Blocked (ls : List Lexeme) (i j : ℕ) (ss : List Stmt) : Type 0 where
  pub spans : Spans ls i (trees.block_lexemes (map stmt_lexemes ss)) j
  pub told : all_true (map is_told ss) ≡ true

-- what follows the front of a statement
pub record Tail (ls : List Lexeme) (front : List Lexeme) (i j : ℕ) (r t : Values) : Type 0 where
  pub statement : Stmt
  pub tail : List Lexeme
  pub spans : Spans ls i tail j
  pub same : stmt_lexemes statement ≡ front ++ tail
  pub told : is_told statement ≡ true
  pub stack : t ≡ value.Statement statement ∷ r

-- what follows an opening bracket, and the closing one
pub record Closed (ls : List Lexeme) (n i j : ℕ) (r t : Values) : Type 0 where
  pub members : List Expr
  pub spans : Spans ls i (separated (map expr_lexemes members) ++ Fixed n ∷ []) j
  pub stack : t ≡ value.Members members ∷ r

-- a program
pub record Programmed (ls : List Lexeme) (i : ℕ) : Type 0 where
  pub end : ℕ
  pub body : List Stmt
  pub result : Expr
  pub spans : Spans ls i (trees.program_lexemes (record { body = body; result = result })) end
  pub told : all_true (map is_told body) ≡ true

-- ---- longer lists

nil : (xs : List Lexeme) → xs ++ [] ≡ xs
nil [] = refl
nil (x ∷ xs) = ap (λ z. x ∷ z) (nil xs)

commas_push : (es : List Expr) (e : Expr)
    → after_commas (map expr_lexemes (es ++ e ∷ []))
    ≡ after_commas (map expr_lexemes es) ++ trees.comma ∷ expr_lexemes e
commas_push [] e = ap (λ z. trees.comma ∷ z) (nil (expr_lexemes e))
commas_push (x ∷ es) e =
    ap (λ z. trees.comma ∷ (expr_lexemes x ++ z)) (commas_push es e)
    ∙ ap (λ z. trees.comma ∷ z)
    (sym (append_assoc (expr_lexemes x) (after_commas (map expr_lexemes es)) (trees.comma ∷ expr_lexemes e)))

pub separated_push : (x : Expr) (es : List Expr) (e : Expr) → separated (map expr_lexemes ((x ∷ es) ++ e ∷ []))
    ≡ separated (map expr_lexemes (x ∷ es)) ++ trees.comma ∷ expr_lexemes e
separated_push x es e =
    ap (λ z. expr_lexemes x ++ z) (commas_push es e)
    ∙ sym (append_assoc (expr_lexemes x) (after_commas (map expr_lexemes es)) (trees.comma ∷ expr_lexemes e))

joined_push : (ss : List Stmt) (s : Stmt)
    → joined (map stmt_lexemes (ss ++ s ∷ [])) ≡ joined (map stmt_lexemes ss) ++ stmt_lexemes s
joined_push [] s = nil (stmt_lexemes s)
joined_push (x ∷ ss) s =
    ap (λ z. stmt_lexemes x ++ z) (joined_push ss s)
    ∙ sym (append_assoc (stmt_lexemes x) (joined (map stmt_lexemes ss)) (stmt_lexemes s))

told_both : (a b c : Bool) → (a && b) ≡ true → (b ≡ true → c ≡ true) → (a && c) ≡ true
told_both true b c h f = f h
told_both false b c h f = h

told_push : (ss : List Stmt) (s : Stmt) → all_true (map is_told ss) ≡ true → is_told s ≡ true
    → all_true (map is_told (ss ++ s ∷ [])) ≡ true
told_push [] s h e = rw e refl
told_push (x ∷ ss) s h e = told_both (is_told x) (all_true (map is_told ss)) _ h (λ k. told_push ss s k e)

module _ (ls : List Lexeme) where
  -- one more expression
  pub listed_more : {h i j : ℕ} {es : List Expr} (e : Expr) → Listed ls h i es → Spans ls i (trees.comma ∷ []) (suc i)
      → Spans ls (suc i) (expr_lexemes e) j → Listed ls h j (es ++ e ∷ [])
  listed_more {h = h} {i = i} {j = j} e l c p =
      let q : separated (map expr_lexemes ((l.first ∷ l.more) ++ e ∷ []))
      ≡ separated (map expr_lexemes (l.first ∷ l.more)) ++ trees.comma ∷ expr_lexemes e =
      separated_push l.first l.more e in
      let t : Spans ls h (separated (map expr_lexemes (l.first ∷ l.more)) ++ trees.comma ∷ expr_lexemes e) j =
      spans.join ls (subst (λ z. Spans ls h (separated (map expr_lexemes z)) i) l.same l.spans) (spans.join ls c p) in
      record {
        first = l.first;
        more = l.more ++ e ∷ [];
        same = ap (λ z. z ++ e ∷ []) l.same;
        spans = subst (λ z. Spans ls h (separated (map expr_lexemes (z ++ e ∷ []))) j) (sym l.same)
            (subst (λ z. Spans ls h z j) (sym q) t);
      }

  -- the first one
  pub listed_one : {i j : ℕ} (e : Expr) → Spans ls i (expr_lexemes e) j → Listed ls i j (e ∷ [])
  listed_one {i = i} {j = j} e p = record {
    first = e;
    more = [];
    same = refl;
    spans = subst (λ z. Spans ls i z j) (sym (nil (expr_lexemes e))) p;
  }

  -- one more statement
  pub joined_more : {h i j : ℕ} {ss : List Stmt} {s : Stmt} → Joined ls h i ss → Stated ls i j s
      → Joined ls h j (ss ++ s ∷ [])
  joined_more {h = h} {j = j} {ss = ss} {s = s} l p = record {
    spans = subst (λ z. Spans ls h z j) (sym (joined_push ss s)) (spans.join ls l.spans p.spans);
    told = told_push ss s l.told p.told;
  }

  abbrev pub trees_of : (ℕ → ℕ → Expr → Type 0) → Kept Values
  trees_of F = puts value.Tree F

  abbrev pub SpansOf : ℕ → ℕ → Expr → Type 0
  SpansOf i j e = Spans ls i (expr_lexemes e) j

  abbrev pub named : (ℕ → List Lexeme) → Kept Values
  named front = record {
    Word = λ i s. (j : ℕ) × (t : Values) × ((x : ℕ) (r : Values) → s ≡ value.Name x ∷ r → Tail ls (front x) i j r t);
    end = λ i s w. w.0;
    stack = λ i s w. w.1;
  }

  abbrev pub closed_by : ℕ → Kept Values
  closed_by n = record {
    Word = λ i s. (j : ℕ) × (t : Values) × ((r : Values) → s ≡ value.Members [] ∷ r → Closed ls n i j r t);
    end = λ i s w. w.0;
    stack = λ i s w. w.1;
  }

  abbrev pub program : Kept Values
  program = record {
    Word = λ i s. Programmed ls i;
    end = λ i s w. w.end;
    stack = λ i s w. value.Tree w.result ∷ value.Statements w.body ∷ s;
  }

  abbrev pub use_front : ℕ → List Lexeme
  use_front x = Var x ∷ []

  abbrev pub constant_front : ℕ → List Lexeme
  constant_front x = trees.const_word ∷ Var x ∷ trees.equals ∷ []

  abbrev pub square_front : ℕ → List Lexeme
  square_front x = trees.const_word ∷ Var x ∷ trees.equals ∷ trees.open_square ∷ []

  -- each rule in order
  abbrev pub words : AllKept Values
  words =
      also program (also (grows value.Statements (Joined ls)) (also (puts value.Statement (Stated ls))
      (also (named use_front) (also (named constant_front) (also (named square_front)
      (also (puts value.Statements (Blocked ls)) (also (trees_of SpansOf) (also (closed_by 20) (also (closed_by 16)
      (also (grows value.Members (Listed ls)) (also (trees_of (Simple ls)) none)))))))))))
