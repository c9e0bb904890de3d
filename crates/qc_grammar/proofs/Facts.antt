-- What the check of a table tells of its alternatives and its rules.
use Rattle.std.proofs.Common.{◌≡◌, ◌<◌, ◌≤◌, ℕ, zero, suc, ◌+◌, ◌*◌, Bool, true, false, ◌||◌, not, ltb, List, []}
use Rattle.std.proofs.Common.{◌∷◌, length, refl, sym, ap, ◌∙◌, subst, arith, Some, None}
use Rattle.std.specs.Prelude.{Option, slice_get, map, take}
use Rattle.std.proofs.Math.ListN.{drop_of_length-le}
use Rattle.std.proofs.Math.Seq.{take-nil}
use Rattle.std.proofs.Math.Nat.{mul-le-mul_right}
use Rattle.std.proofs.lemmas.Bool.{ltb-true, ltb-false}
use Rattle.qc_grammar.specs.declared.symbol.Symbol.{Symbol}
use Rattle.qc_grammar.specs.inner.Derivations.{Rules, alternatives, Produces}
use Rattle.qc_grammar.specs.inner.Certificate.{Notes, places_of, follow_of, rank_of, seed_of, weight_of, solid_of}
use Rattle.qc_grammar.specs.inner.Certificate.{begins}
use Rattle.qc_grammar.specs.inner.Certificate.{leads, names, follows, steps, stops, ranked, good, all_good, sown}
use Rattle.qc_grammar.specs.inner.Certificate.{all_rules, passes, rules, is_exact}
use Rattle.qc_grammar.specs.inner.Machine.{Table, body_at, row, turn, named, choose, member}
use Rattle.qc_grammar.proofs.Sets.{both, in_names, numbered, mapped}

-- the rules are those of the table, which is exact
pub record Exact (g : Rules) (o : Table) (c : Notes) : Type 0 where
  pub passes : passes g o c ≡ true
  pub same : g ≡ rules o c

pub exact : (o : Table) (c : Notes) → is_exact o c ≡ true → Exact (rules o c) o c
exact o c h = record { passes = h; same = refl }

-- an alternative that the check lets pass
pub record Good (g : Rules) (o : Table) (c : Notes) (n : ℕ) (body : List Symbol) : Type 0 where
  pub place : ℕ
  pub there : body_at o place ≡ body
  pub leads : leads (begins o body (follow_of c n)) place (row o n) ≡ true
  pub follows : follows g o c (follow_of c n) body ≡ true
  pub light : steps c body < weight_of c n
  pub stops : (not (solid_of c n) || stops c body) ≡ true

-- a rule that the check lets pass: an alternative of rules of less rank
pub record Seed (g : Rules) (c : Notes) (n : ℕ) : Type 0 where
  pub body : List Symbol
  pub produces : Produces g n body
  pub ranked : ranked g c (rank_of c n) body ≡ true

-- the alternatives of a rule stand at its places
stand : (o : Table) (c : Notes) (n : ℕ) → alternatives (rules o c) n ≡ map (body_at o) (places_of c n)
unfolding rules
stand o [] n = refl
stand o (x ∷ c) zero = refl
stand o (x ∷ c) (suc n) = stand o c n

module _ (g : Rules) (o : Table) (c : Notes) where
  good_at : (ps : List ℕ) (n i p : ℕ) → all_good g o c n ps ≡ true → slice_get ps i ≡ Some p
      → good g o c n p (body_at o p) ≡ true
  good_at [] n i p h e = cc
  good_at (q ∷ ps) n zero p h e =
      let same : q ≡ p = cc in
      subst (λ z. good g o c n z (body_at o z) ≡ true) same
      (both (good g o c n q (body_at o q)) (all_good g o c n ps) h).0
  good_at (q ∷ ps) n (suc i) p h e =
      good_at ps n i p (both (good g o c n q (body_at o q)) (all_good g o c n ps) h).1 e

  good_of : (n p : ℕ) (body : List Symbol) → body_at o p ≡ body → good g o c n p body ≡ true → Good g o c n body
  good_of n p body e h =
      let x = both (leads (begins o body (follow_of c n)) p (row o n)) _ h in
      let y = both (follows g o c (follow_of c n) body) _ x.1 in
      let z = both (ltb (steps c body) (weight_of c n)) _ y.1 in
      record { place = p; there = e; leads = x.0; follows = y.0; light = ltb-true _ _ z.0; stops = z.1 }

  -- the checks of a rule
  record Checked (n : ℕ) : Type 0 where
    good : all_good g o c n (places_of c n) ≡ true
    names : names (row o n) (places_of c n) ≡ true
    sown : sown g c (rank_of c n) (slice_get (alternatives g n) (seed_of c n)) ≡ true

  rule_at : (es : List (List (List Symbol))) (n base : ℕ) → all_rules g o c base es ≡ true → n < length es
      → Checked (base + n)
  rule_at [] n base h lt = absurd (omega arith)
  rule_at (e ∷ es) zero base h lt =
      let at : base ≡ base + 0 = omega arith in
      let x = both (all_good g o c base (places_of c base)) _ h in
      let y = both (names (row o base) (places_of c base)) _ x.1 in
      let z = both (sown g c (rank_of c base) (slice_get (alternatives g base) (seed_of c base))) _ y.1 in
      subst Checked at (record { good = x.0; names = y.0; sown = z.0 })
  rule_at (e ∷ es) (suc n) base h lt =
      let at : suc base + n ≡ base + suc n = omega arith in
      let x = both (all_good g o c base (places_of c base)) _ h in
      let y = both (names (row o base) (places_of c base)) _ x.1 in
      let z = both (sown g c (rank_of c base) (slice_get (alternatives g base) (seed_of c base))) _ y.1 in
      subst Checked at (rule_at es n (suc base) z.1 (omega arith))

  checked : Exact g o c → (n : ℕ) → n < length g → Checked n
  checked ex n lt =
      let at : 0 + n ≡ n = omega arith in
      subst Checked at (rule_at g n 0 (both (all_rules g o c 0 g) _ ex.passes).0 lt)

  -- there is a rule
  pub started : Exact g o c → 0 < length g
  started ex = ltb-true _ _ (both (ltb 0 (length g)) _ (both (all_rules g o c 0 g) _ ex.passes).1).0

  -- behind the start may be the end
  pub ended : Exact g o c → member 0 (follow_of c 0) ≡ true
  ended ex =
      (both (member 0 (follow_of c 0)) _ (both (ltb 0 (length g)) _ (both (all_rules g o c 0 g) _ ex.passes).1).1).0

  -- there is no row besides those of the rules
  few : Exact g o c → length o.turns < suc (length g * o.width)
  few ex = ltb-true _ _
      (both (member 0 (follow_of c 0)) _ (both (ltb 0 (length g)) _ (both (all_rules g o c 0 g) _ ex.passes).1).1).1

  at_places : Exact g o c → (n : ℕ) → alternatives g n ≡ map (body_at o) (places_of c n)
  at_places ex n = ap (λ z. alternatives z n) ex.same ∙ stand o c n

  pub good_production : Exact g o c → (n : ℕ) → n < length g → (body : List Symbol) (P : Produces g n body)
      → Good g o c n body
  good_production ex n lt body P =
      let found = ap (λ z. slice_get z P.number) (sym (at_places ex n)) ∙ P.found in
      let r = mapped (body_at o) (places_of c n) P.number body found in
      let fine = good_at (places_of c n) n P.number r.0 (checked ex n lt).good r.1 in
      good_of n r.0 body r.2 (subst (λ z. good g o c n r.0 z ≡ true) r.2 fine)

  seeded : (n p : ℕ) (x : Option (List Symbol)) → slice_get (alternatives g n) p ≡ x → sown g c (rank_of c n) x ≡ true
      → Seed g c n
  seeded n p None e h = cc
  seeded n p (Some b) e h = record { body = b; produces = record { number = p; found = e }; ranked = h }

  pub seed : Exact g o c → (n : ℕ) → n < length g → Seed g c n
  seed ex n lt = seeded n (seed_of c n) (slice_get (alternatives g n) (seed_of c n)) refl (checked ex n lt).sown

  -- a row besides is empty
  no_row : Exact g o c → (n k : ℕ) → length g ≤ n → turn (row o n) k ≡ 0
  no_row ex n k le =
      let past : length o.turns ≤ n * o.width = omega (arith, few ex, mul-le-mul_right o.width le) in
      let none : row o n ≡ [] = ap (take o.width) (drop_of_length-le o.turns past) ∙ take-nil o.width in
      ap (λ z. turn z k) none

  -- what is chosen is an alternative of a rule of the grammar
  pub chosen_rule : Exact g o c → (n k : ℕ) (body : List Symbol) → choose o n k ≡ Some body → n < length g
  chosen_rule ex n k body h =
      let cases : (b : Bool) → ltb n (length g) ≡ b → n < length g = λ b.
      elim b as (λ b. ltb n (length g) ≡ b → n < length g) [
        | true ↦ λ e. ltb-true _ _ e
        | false ↦ λ e. absurd (let z = ap (named o) (no_row ex n k (ltb-false _ _ e)) in cc)
      ] in
      cases (ltb n (length g)) refl

  chosen_by : Exact g o c → (n k : ℕ) → n < length g → (body : List Symbol) (t : ℕ) → turn (row o n) k ≡ t
      → named o t ≡ Some body → Produces g n body
  chosen_by ex n k lt body zero e h = cc
  chosen_by ex n k lt body (suc p) e h =
      let r = numbered (body_at o) (places_of c n) p
      (in_names (row o n) (places_of c n) k p (checked ex n lt).names e) in
      record { number = r.0; found = ap (λ z. slice_get z r.0) (at_places ex n) ∙ r.1 ∙ h }

  pub chosen : Exact g o c → (n k : ℕ) (body : List Symbol) → choose o n k ≡ Some body → Produces g n body
  chosen ex n k body h = chosen_by ex n k (chosen_rule ex n k body h) body (turn (row o n) k) refl h
