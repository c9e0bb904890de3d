-- How a table is read: what is left of alternatives, and one alternative by what comes next.
use Rattle.std.specs.Prelude.{◌≡◌, ℕ, zero, suc, ◌*◌, Bool, false, if◌then◌else◌, ◌||◌, eqb}
use Rattle.std.specs.Prelude.{List, [], ◌∷◌, ◌++◌, take, drop, Option, Some, None, slice_get}
use Rattle.qc_grammar.specs.declared.symbol.Symbol.{Symbol}
use Rattle.qc_grammar.specs.declared.symbol.Symbol.TheVariants.{Token, Rule, Action}
use Rattle.qc_grammar.specs.declared.symbol.Event.{Event}
use Rattle.qc_grammar.specs.declared.table.Table as code

-- what comes next: 0 at the end, or suc k
abbrev pub next : List ℕ → ℕ
next [] = 0
next (k ∷ ks) = suc k

-- it is one of these
abbrev pub member : ℕ → List ℕ → Bool
member k [] = false
member k (x ∷ xs) = eqb k x || member k xs

-- a grammar as numbers: what the code says of its parts
pub record Table : Type 0 where
  pub steps : List ℕ
  pub width : ℕ
  pub turns : List ℕ

-- the code's table
abbrev pub table : code.Table → Table
table t = record { steps = t.steps.now; width = t.width; turns = t.turns.now }

-- the symbol that a step tells, or none at the end of an alternative
abbrev pub symbol : ℕ → ℕ → Option Symbol
symbol s v =
    if eqb s 0 then Some (Token v) else if eqb s 1 then Some (Rule v) else if eqb s 2 then Some (Action v) else None

-- the alternative with which the steps begin
abbrev pub body : List ℕ → List Symbol
body [] = []
body (s ∷ []) = []
body (s ∷ v ∷ steps) = elim (symbol s v) [ None ↦ [] | Some x ↦ x ∷ body steps ]

-- the alternative at a place
abbrev pub body_at : Table → ℕ → List Symbol
body_at o p = body (drop p o.steps)

-- what is left of the alternatives at these places
abbrev pub left : Table → List ℕ → List Symbol
left o [] = []
left o (p ∷ ps) = body_at o p ++ left o ps

-- of a rule, by what comes next: the place and 1 of the alternative that is chosen, or 0
abbrev pub row : Table → ℕ → List ℕ
row o n = take o.width (drop (n * o.width) o.turns)

-- the number, or 0
abbrev pub filled : Option ℕ → ℕ
filled (Some t) = t
filled None = 0

-- what a row says of this
abbrev pub turn : List ℕ → ℕ → ℕ
turn ts k = filled (slice_get ts k)

-- the alternative that it names
abbrev pub named : Table → ℕ → Option (List Symbol)
named o zero = None
named o (suc p) = Some (body_at o p)

-- the alternative that is chosen on this
abbrev pub choose : Table → ℕ → ℕ → Option (List Symbol)
choose o n k = named o (turn (row o n) k)

-- the kinds lead to this stack, so many tokens read, this rest and these actions
pub data Reached (o : Table) (kinds : List ℕ) : List Symbol → ℕ → List ℕ → List Event → Type 0 where
  begun : Reached o kinds (Rule 0 ∷ []) 0 kinds []
  took : {i k : ℕ} {σ : List Symbol} {rest : List ℕ} {es : List Event}
      → Reached o kinds (Token k ∷ σ) i (k ∷ rest) es → Reached o kinds σ (suc i) rest es
  acted : {i a : ℕ} {σ : List Symbol} {rest : List ℕ} {es : List Event}
      → Reached o kinds (Action a ∷ σ) i rest es
      → Reached o kinds σ i rest (es ++ record { action = a; at = i } ∷ [])
  went : {i n : ℕ} {σ body : List Symbol} {rest : List ℕ} {es : List Event} → choose o n (next rest) ≡ Some body
      → Reached o kinds (Rule n ∷ σ) i rest es → Reached o kinds (body ++ σ) i rest es
