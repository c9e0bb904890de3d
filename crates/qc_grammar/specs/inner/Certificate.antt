-- Whether a table tells its words by the next token: a check of each alternative by itself, with what is noted of the
-- rules. Below g has the rules, o on what each alternative is chosen, c the notes, and f what may come behind.
use Rattle.std.specs.Prelude.{ℕ, zero, suc, ◌+◌, ◌*◌, Bool, true, false, cond, ◌&&◌, ◌||◌, not}
use Rattle.std.specs.Prelude.{eqb, ltb, List, [], ◌∷◌, length, map, Option, Some, None, slice_get}
use Rattle.qc_grammar.specs.declared.symbol.Symbol.{Symbol}
use Rattle.qc_grammar.specs.declared.symbol.Symbol.TheVariants.{Token, Rule, Action}
use Rattle.qc_grammar.specs.inner.Derivations.{Rules, alternatives}
use Rattle.qc_grammar.specs.inner.Machine.{Table, body_at, row, turn, member}

-- what is noted of a rule
pub record Note : Type 0 where
  -- the places of its alternatives
  pub places : List ℕ
  -- what may come next behind the rule: 0 is the end, and suc k a token of the kind k
  pub follow : List ℕ
  -- an alternative that leads to a word
  pub seed : ℕ
  -- a number above the ranks of the rules in that alternative
  pub rank : ℕ
  -- a number above the steps that any alternative takes before the next token
  pub weight : ℕ
  -- whether each word has a token
  pub solid : Bool

-- of each rule, by its number
abbrev pub Notes : Type 0
Notes = List Note

-- what is noted, or nothing
abbrev pub noted : Option Note → Note
noted (Some note) = note
noted None = record { places = []; follow = []; seed = 0; rank = 0; weight = 0; solid = false }

abbrev pub places_of : Notes → ℕ → List ℕ
places_of c n = (noted (slice_get c n)).places

abbrev pub follow_of : Notes → ℕ → List ℕ
follow_of c n = (noted (slice_get c n)).follow

abbrev pub seed_of : Notes → ℕ → ℕ
seed_of c n = (noted (slice_get c n)).seed

abbrev pub rank_of : Notes → ℕ → ℕ
rank_of c n = (noted (slice_get c n)).rank

abbrev pub weight_of : Notes → ℕ → ℕ
weight_of c n = (noted (slice_get c n)).weight

abbrev pub solid_of : Notes → ℕ → Bool
solid_of c n = (noted (slice_get c n)).solid

-- the rules of the table, by the places of their alternatives
unfoldable pub rules : Table → Notes → Rules
rules o c = map (λ note. map (body_at o) note.places) c

-- ---- sets of what may come next

-- on what any alternative is chosen, of a row from this number on
abbrev pub chosen_from : ℕ → List ℕ → List ℕ
chosen_from k [] = []
chosen_from k (zero ∷ ts) = chosen_from (suc k) ts
chosen_from k (suc p ∷ ts) = k ∷ chosen_from (suc k) ts

-- each of the first set is in the second
abbrev pub within : List ℕ → List ℕ → Bool
within [] t = true
within (k ∷ s) t = member k t && within s t

-- on each of the set the alternative at this place is chosen
abbrev pub leads : List ℕ → ℕ → List ℕ → Bool
leads [] p ts = true
leads (k ∷ s) p ts = eqb (turn ts k) (suc p) && leads s p ts

-- a row names these places alone
abbrev pub names : List ℕ → List ℕ → Bool
names [] ps = true
names (zero ∷ ts) ps = names ts ps
names (suc p ∷ ts) ps = member p ps && names ts ps

-- by what the symbols may begin
abbrev pub begins : Table → List Symbol → List ℕ → List ℕ
begins o [] f = f
begins o (Token k ∷ σ) f = suc k ∷ []
begins o (Rule n ∷ σ) f = chosen_from 0 (row o n)
begins o (Action a ∷ σ) f = begins o σ f

-- ---- the checks of an alternative

-- what may come behind each rule in the symbols is noted to follow it
abbrev pub follows : Rules → Table → Notes → List ℕ → List Symbol → Bool
follows g o c f [] = true
follows g o c f (Token k ∷ σ) = follows g o c f σ
follows g o c f (Rule n ∷ σ) =
    ltb n (length g) && (within (begins o σ f) (follow_of c n) && follows g o c f σ)
follows g o c f (Action a ∷ σ) = follows g o c f σ

-- the steps that the symbols may take before the next token
abbrev pub steps : Notes → List Symbol → ℕ
steps c [] = 0
steps c (Token k ∷ σ) = 0
steps c (Rule n ∷ σ) = cond (solid_of c n) (weight_of c n) (weight_of c n + steps c σ)
steps c (Action a ∷ σ) = suc (steps c σ)

-- each word of the symbols has a token
abbrev pub stops : Notes → List Symbol → Bool
stops c [] = false
stops c (Token k ∷ σ) = true
stops c (Rule n ∷ σ) = solid_of c n || stops c σ
stops c (Action a ∷ σ) = stops c σ

-- the ranks of the rules in the symbols are below this one
abbrev pub ranked : Rules → Notes → ℕ → List Symbol → Bool
ranked g c r [] = true
ranked g c r (Token k ∷ σ) = ranked g c r σ
ranked g c r (Rule n ∷ σ) = ltb n (length g) && (ltb (rank_of c n) r && ranked g c r σ)
ranked g c r (Action a ∷ σ) = ranked g c r σ

-- the alternative at the place p, of the rule n: it is chosen on all by which it may begin, its rules may be followed
-- so, it takes few steps before a token, and it has a token if the rule is to have one
abbrev pub good : Rules → Table → Notes → ℕ → ℕ → List Symbol → Bool
good g o c n p body = leads (begins o body (follow_of c n)) p (row o n)
    && (follows g o c (follow_of c n) body
    && (ltb (steps c body) (weight_of c n)
    && (not (solid_of c n) || stops c body)))

-- the alternatives at these places
abbrev pub all_good : Rules → Table → Notes → ℕ → List ℕ → Bool
all_good g o c n [] = true
all_good g o c n (p ∷ ps) = good g o c n p (body_at o p) && all_good g o c n ps

-- the seed is an alternative, of rules of less rank
abbrev pub sown : Rules → Notes → ℕ → Option (List Symbol) → Bool
sown g c r None = false
sown g c r (Some b) = ranked g c r b

-- the rules from the one with the number n on
abbrev pub all_rules : Rules → Table → Notes → ℕ → List (List (List Symbol)) → Bool
all_rules g o c n [] = true
all_rules g o c n (e ∷ es) = all_good g o c n (places_of c n)
    && (names (row o n) (places_of c n)
    && (sown g c (rank_of c n) (slice_get (alternatives g n) (seed_of c n))
    && all_rules g o c (suc n) es))

-- all rules pass, there is one, behind the start may be the end, and there is no row besides
abbrev pub passes : Rules → Table → Notes → Bool
passes g o c = all_rules g o c 0 g
    && (ltb 0 (length g) && (member 0 (follow_of c 0) && ltb (length o.turns) (suc (length g * o.width))))

-- the table is exact
abbrev pub is_exact : Table → Notes → Bool
is_exact o c = passes (rules o c) o c
