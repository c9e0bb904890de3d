-- What the words of each rule of the table are in the grammar, and what they make of the stack.
use Rattle.std.proofs.Common.{◌≡◌, ℕ, suc, List, [], ◌∷◌, ◌++◌}
use Rattle.std.specs.Prelude.{Option}
use Rattle.qc_grammar.specs.declared.symbol.Symbol.{Symbol}
use Rattle.qc_grammar.specs.declared.symbol.Symbol.TheVariants.{Token}
use Rattle.qc_lex.specs.declared.token.Lexeme.{Lexeme}
use Rattle.qc_oql_tree.specs.declared.tree.Direction.{Direction}
use Rattle.qc_oql_tree.specs.declared.tree.Filter.{Filter}
use Rattle.qc_oql_tree.specs.declared.tree.Key.{Key}
use Rattle.qc_oql_tree.specs.declared.tree.Named.{Named}
use Rattle.qc_oql_tree.specs.declared.tree.Oql.{Oql}
use Rattle.qc_oql_tree.specs.declared.tree.Oql.TheVariants as tree
use Rattle.qc_oql_tree.specs.declared.tree.Order.{Order}
use Rattle.qc_oql_tree.specs.declared.tree.Select.{Select}
use Rattle.qc_oql_tree.specs.Grammar as rel
use Rattle.qc_oql_tree.specs.TokenKinds.{DISTINCT, EXISTS, FROM, CLOSE, COUNT, SUM, MIN, MAX, AVG, ELEMENT, FLATTEN}
use Rattle.qc_oql_tree.specs.TokenKinds.{ABS, LEFT, RIGHT, UNBRAND, WHOLES, CONSTANTS, SETS, SUMS, DIVISIONS, TESTS}
use Rattle.qc_oql_tree.specs.TokenKinds.{BINARIES, BRANDINGS, LABELS}
use Rattle.qc_oql_tree.specs.Trees as trees
use Rattle.qc_oql_table.specs.declared.value.Value.{Value}
use Rattle.qc_oql_table.specs.declared.value.Value.TheVariants as value
use Rattle.qc_oql_table.specs.Actions as actions
use Rattle.qc_oql_table.specs.Values.{Values, rest, the_mark, the_entries, the_keys}
use Rattle.qc_grammar.proofs.Walks.{Kept, AllKept, none, also}

-- a value of a language on top of the stack
abbrev pub puts : {A : Type 0} → (A → Value) → (ℕ → ℕ → A → Type 0) → Kept Values
puts {A = A} put F = record {
  Word = λ i s. (j : ℕ) × (x : A) × F i j x;
  end = λ i s w. w.0;
  stack = λ i s w. put w.1 ∷ s;
}

-- of the value on top a longer one
abbrev pub grows : {A : Type 0} → (A → Value) → (ℕ → ℕ → A → Type 0) → (ℕ → ℕ → A → Type 0) → Kept Values
grows {A = A} put F G = record {
  Word = λ i s. (j : ℕ) × (t : Values) × ((h : ℕ) (x : A) (r : Values) → F h i x → s ≡ put x ∷ r
      → (y : A) × G h j y × (t ≡ put y ∷ r));
  end = λ i s w. w.0;
  stack = λ i s w. w.1;
}

-- a list of a language in place of the empty one, and a bracket
abbrev pub lists : {A : Type 0} → (List A → Value) → (ℕ → ℕ → List A → Type 0) → (ℕ → Type 0) → Kept Values
lists {A = A} put F Closed = record {
  Word = λ i s. (j : ℕ) × (t : Values) × Closed j
      × ((r : Values) → s ≡ put [] ∷ r → (xs : List A) × F i j xs × (t ≡ put xs ∷ r));
  end = λ i s w. suc w.0;
  stack = λ i s w. w.1;
}

-- the functions of one operand whose words begin nothing else
abbrev pub PLAIN_UNARIES : List ℕ
PLAIN_UNARIES = COUNT ∷ SUM ∷ MIN ∷ MAX ∷ AVG ∷ ELEMENT ∷ FLATTEN ∷ ABS ∷ LEFT ∷ RIGHT ∷ UNBRAND ∷ []

-- an alternative of one token
abbrev pub single : ℕ → List Symbol
single k = Token k ∷ []

-- what stands behind `from`
pub record Sources (ts : List Lexeme) (i m : ℕ) (bs : List Named) (f : Option Filter) (o : Option Order) : Type 0 where
  pub k : ℕ
  pub l : ℕ
  pub from : rel.Is ts i FROM
  pub bindings : rel.Bindings ts (suc i) k bs
  pub filtered : rel.Filtered ts k l f
  pub ordered : rel.Ordered ts l m o

pub record Sourced (ts : List Lexeme) (i : ℕ) : Type 0 where
  pub end : ℕ
  pub bindings : List Named
  pub filter : Option Filter
  pub order : Option Order
  pub sources : Sources ts i end bindings filter order

-- a whole query from a token on
pub record Queried (ts : List Lexeme) (i : ℕ) : Type 0 where
  pub j : ℕ
  pub k : ℕ
  pub end : ℕ
  pub defines : List Named
  pub body : Oql
  pub defined : rel.Defines ts i j defines
  pub spelled : rel.Expr ts j k body
  pub ended : rel.Ending ts k end

module _ (ts : List Lexeme) where
  -- where it does not begin with `distinct`
  abbrev pub Apart : (ℕ → ℕ → Oql → Type 0) → ℕ → ℕ → Oql → Type 0
  Apart F i j x = (rel.Is ts i DISTINCT → ⊥) × F i j x

  abbrev pub trees_of : (ℕ → ℕ → Oql → Type 0) → Kept Values
  trees_of F = puts value.Tree F

  abbrev pub tail : (ℕ → ℕ → Oql → Type 0) → (ℕ → ℕ → Oql → Type 0) → Kept Values
  tail F G = grows value.Tree F G

  abbrev pub class : List ℕ → Kept Values
  class ks = record { Word = λ i s. rel.Among ts i ks; end = λ i s w. suc i; stack = λ i s w. s }

  abbrev pub Closing : ℕ → Type 0
  Closing j = rel.Is ts j CLOSE

  abbrev pub query : Kept Values
  query = record {
    Word = λ i s. Queried ts i;
    end = λ i s w. w.end;
    stack = λ i s w. value.Tree w.body ∷ value.Entries w.defines ∷ s;
  }

  abbrev pub ending : Kept Values
  ending = record { Word = λ i s. (j : ℕ) × rel.Ending ts i j; end = λ i s w. w.0; stack = λ i s w. s }

  abbrev pub selection : Kept Values
  selection = record {
    Word = λ i s. (j : ℕ) × (x : Select) × rel.Selection ts i j x;
    end = λ i s w. w.0;
    stack = λ i s w. value.Tree (tree.Select (the_mark s).at w.1) ∷ rest s;
  }

  abbrev pub sources : Kept Values
  sources = record {
    Word = λ i s. Sourced ts i;
    end = λ i s w. w.end;
    stack = λ i s w. value.Ordered w.order ∷ value.Filtered w.filter ∷ value.Entries w.bindings ∷ s;
  }

  abbrev pub binding : Kept Values
  binding = record {
    Word = λ i s. (j : ℕ) × (x : Oql) × rel.Binding ts i j (trees.named i (rel.text_at ts i) x);
    end = λ i s w. w.0;
    stack = λ i s w. value.Tree w.1 ∷ value.Name (record { at = i; text = rel.text_at ts i }) ∷ s;
  }

  abbrev pub sort_key : Kept Values
  sort_key = record {
    Word = λ i s. (j : ℕ) × (k : Key) × rel.SortKey ts i j k;
    end = λ i s w. w.0;
    stack = λ i s w. value.Keys (the_keys s ++ w.1 ∷ []) ∷ rest s;
  }

  abbrev pub direction : Kept Values
  direction = record {
    Word = λ i s. (j : ℕ) × (d : Direction) × rel.Directed ts i j d;
    end = λ i s w. w.0;
    stack = λ i s w. actions.key w.1 s;
  }

  -- behind `exists`
  abbrev pub exists_rest : Kept Values
  exists_rest = record {
    Word = λ i s. (j : ℕ) × (t : Values)
        × ((h : ℕ) (r : Values) → i ≡ suc h → rel.Is ts h EXISTS
        → s ≡ value.Mark (record { at = h; kind = rel.kind_at ts h }) ∷ r
        → (x : Oql) × rel.Q ts h j x × (t ≡ value.Tree x ∷ r));
    end = λ i s w. w.0;
    stack = λ i s w. w.1;
  }

  abbrev pub field : Kept Values
  field = record {
    Word = λ i s. (j : ℕ) × (f : Named) × rel.Field ts i j f;
    end = λ i s w. w.0;
    stack = λ i s w. value.Entries (the_entries s ++ w.1 ∷ []) ∷ rest s;
  }

  -- of the levels of operators, but for the last one
  abbrev levels : ((ℕ → ℕ → Oql → Type 0) → ℕ → ℕ → Oql → Type 0) → AllKept Values → AllKept Values
  levels F Rs =
      also (trees_of (F (rel.And ts))) (also (trees_of (F (rel.Not ts)))
      (also (trees_of (F (rel.Rel ts))) (also (trees_of (F (rel.Sets ts)))
      (also (trees_of (F (rel.Sum ts))) (also (trees_of (F (rel.Product ts)))
      (also (trees_of (F (rel.Neg ts))) (also (trees_of (F (rel.Path ts))) Rs)))))))

  abbrev tails : AllKept Values → AllKept Values
  tails Rs =
      also (tail (rel.Or ts) (rel.Or ts))
      (also (tail (rel.And ts) (rel.And ts))
      (also (tail (rel.Sets ts) (rel.Rel ts)) (also (tail (rel.Sets ts) (rel.Sets ts))
      (also (tail (rel.Sum ts) (rel.Sum ts))
      (also (tail (rel.Product ts) (rel.Product ts))
      (also (puts value.Divisor (rel.Divisor ts)) (also (tail (rel.Path ts) (rel.Path ts)) Rs)))))))

  abbrev classes : AllKept Values
  classes =
      also (class WHOLES) (also (class CONSTANTS)
      (also (class SETS) (also (class SUMS) (also (class DIVISIONS) (also (class TESTS)
      (also (class PLAIN_UNARIES) (also (class BINARIES) (also (class BRANDINGS) (also (class LABELS) none)))))))))

  abbrev atoms : AllKept Values
  atoms =
      also (trees_of (rel.Atom ts)) (also (trees_of (rel.Atom ts)) (also (trees_of (Apart (rel.Atom ts)))
      (also (lists value.Entries (rel.Fields ts) Closing)
      (also (grows value.Entries (rel.SomeFields ts) (rel.SomeFields ts)) (also field
      (also (lists value.Members (rel.Members ts) Closing)
      (also (grows value.Members (rel.SomeMembers ts) (rel.SomeMembers ts)) classes)))))))

  abbrev clauses : AllKept Values → AllKept Values
  clauses Rs =
      also query (also (grows value.Entries (rel.Defines ts) (rel.Defines ts))
      (also ending (also (trees_of (rel.Expr ts)) (also selection (also sources
      (also (grows value.Entries (rel.Bindings ts) (rel.Bindings ts))
      (also binding (also (puts value.Filtered (rel.Filtered ts)) (also (puts value.Ordered (rel.Ordered ts))
      (also (grows value.Keys (rel.Keys ts) (rel.Keys ts))
      (also sort_key (also direction (also (trees_of (rel.Q ts)) (also (trees_of (Apart (rel.Q ts)))
      (also (trees_of (Apart (rel.Q ts))) (also exists_rest Rs))))))))))))))))

  -- each rule in order
  abbrev pub words : AllKept Values
  words = clauses
      (also (trees_of (rel.Or ts)) (levels (λ F. F)
      (also (trees_of (Apart (rel.Or ts))) (levels Apart
      (levels (λ F. F) (tails atoms))))))
