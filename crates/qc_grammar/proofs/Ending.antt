-- The steps before the next token: each takes one.
use Rattle.std.proofs.Common.{◌≡◌, ◌<◌, ℕ, ◌+◌, Bool, true, false, cond, ◌||◌, not, List, [], ◌∷◌, ◌++◌, refl, arith}
use Rattle.std.proofs.Common.{Some}
use Rattle.qc_grammar.specs.declared.symbol.Symbol.{Symbol}
use Rattle.qc_grammar.specs.declared.symbol.Symbol.TheVariants.{Token, Rule, Action}
use Rattle.qc_grammar.specs.inner.Certificate.{Notes, weight_of, solid_of, steps, stops}
use Rattle.qc_grammar.specs.inner.Derivations.{Rules}
use Rattle.qc_grammar.specs.inner.Machine.{Table, choose}
use Rattle.qc_grammar.proofs.Facts.{Exact, good_production, chosen, chosen_rule}

module _ (g : Rules) (o : Table) (c : Notes) where
  steps_append : (β σ : List Symbol) → steps c (β ++ σ) ≡ steps c β + cond (stops c β) 0 (steps c σ)
  steps_append [] σ = omega arith
  steps_append (Token k ∷ β) σ = refl
  steps_append (Action a ∷ β) σ = let e = steps_append β σ in omega arith
  steps_append (Rule n ∷ β) σ =
      let e = steps_append β σ in
      elim (solid_of c n) as (λ b. cond b (weight_of c n) (weight_of c n + steps c (β ++ σ))
      ≡ cond b (weight_of c n) (weight_of c n + steps c β) + cond (b || stops c β) 0 (steps c σ)) [
        | true ↦ omega arith
        | false ↦ omega arith
      ]

  less : (b s : Bool) (l w m : ℕ) → l < w → (not b || s) ≡ true → l + cond s 0 m < cond b w (w + m)
  less true true l w m lt h = omega arith
  less true false l w m lt h = absurd (cc)
  less false true l w m lt h = omega arith
  less false false l w m lt h = omega arith

  pub lighter : Exact g o c → (n k : ℕ) (σ body : List Symbol) → choose o n k ≡ Some body
      → steps c (body ++ σ) < steps c (Rule n ∷ σ)
  lighter ex n k σ body h =
      let G = good_production g o c ex n (chosen_rule g o c ex n k body h) body (chosen g o c ex n k body h) in
      rw (steps_append body σ) (less (solid_of c n) (stops c body) (steps c body) (weight_of c n)
      (steps c σ) G.light G.stops)
