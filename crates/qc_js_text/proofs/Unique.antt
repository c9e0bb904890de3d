-- A text spells at most one program.
use Rattle.std.proofs.Common.{◌≡◌, ℕ, zero, suc, List, [], ◌∷◌, ◌++◌, map, Some, sym, ap, ◌∙◌, subst, arith}
use Rattle.std.proofs.Common.{refl, true}
use Rattle.qc_grammar.specs.declared.symbol.Symbol.{Symbol}
use Rattle.qc_grammar.specs.declared.symbol.Symbol.TheVariants.{Token, Rule, Action}
use Rattle.qc_grammar.specs.declared.symbol.Event.{Event}
use Rattle.qc_grammar.specs.inner.Certificate.{Notes, follow_of, is_exact, rules}
use Rattle.qc_grammar.specs.inner.Derivations.{Rules, Produces, Derives, nothing, token, action, rule}
use Rattle.qc_grammar.specs.inner.Machine.{Table, choose, named, next}
use Rattle.qc_grammar.proofs.Facts.{Exact, ended, exact, started}
use Rattle.qc_grammar.proofs.Heads.{Comes, Fits, Has, comes, fits_body, forced, turned}
use Rattle.qc_grammar.proofs.Sets.{one_is}
use Rattle.qc_js.specs.declared.tree.Program.{Program}
use Rattle.qc_js.specs.Spelling.{Spells}
use Rattle.qc_js_lex.specs.declared.lexeme.Lexeme.{Lexeme}
use Rattle.qc_js_lex.specs.Lexemes.{kind}
use Rattle.qc_js_lex.proofs.Answered.{scanned_as}
use Rattle.qc_js_text.specs.Table.{grammar}
use Rattle.qc_js_text.specs.inner.Actions.{program_of}
use Rattle.qc_js_text.specs.inner.Notes.{notes}
use Rattle.qc_js_text.specs.inner.Trees.{Reads}
use Rattle.qc_js_text.proofs.Answered.{spelled_reads}
use Rattle.qc_js_text.proofs.Bridge.{complete}

-- ---- an exact table derives each list in one way

module _ (g : Rules) (o : Table) (c : Notes) (ex : Exact g o c) where
  un_token : (i k next : ℕ) (σ : List Symbol) (ks : List ℕ) (es : List Event)
      → Derives g i (Token k ∷ σ) (next ∷ ks) es → Derives g (suc i) σ ks es
  un_token i k next σ ks es (token d) = d

  un_action : (i a : ℕ) (σ : List Symbol) (ks : List ℕ) (es : List Event) → Derives g i (Action a ∷ σ) ks es
      → (fs : List Event) × (es ≡ record { action = a; at = i } ∷ fs) × Derives g i σ ks fs
  un_action i a σ ks es (action {es = fs} d) = (fs, refl, d)

  un_nothing : (i : ℕ) (ks : List ℕ) (es : List Event) → Derives g i [] ks es → es ≡ []
  un_nothing i ks es nothing = refl

  -- the production that is derived is the one that the next token chooses
  is_chosen : (i n : ℕ) (σ body : List Symbol) (ks : List ℕ) (es : List Event) (P : Produces g n body)
      → Derives g i (body ++ σ) ks es → Fits g o c (Rule n ∷ σ) → choose o n (next ks) ≡ Some body
  is_chosen i n σ body ks es P d fits =
      let t = turned g o c ex n (next ks) σ body P fits
      (comes g o c ex i (body ++ σ) ks es d (fits_body g o c ex n σ body P fits)) in
      ap (named o) t.1 ∙ ap (λ z. Some z) t.2

  one_derivation : (i : ℕ) (σ : List Symbol) (ks : List ℕ) (es fs : List Event) → Fits g o c σ
      → Derives g i σ ks es → Derives g i σ ks fs → fs ≡ es
  one_derivation i σ ks es fs fits nothing e = un_nothing i ks fs e
  one_derivation i σ ks es fs fits (token {k = k} {σ = τ} {ks = more} d) e =
      one_derivation (suc i) τ more es fs fits d (un_token i k k τ more fs e)
  one_derivation i σ ks es fs fits (action {a = a} {σ = τ} {es = hs} d) e =
      let q = un_action i a τ ks fs e in
      q.1 ∙ ap (λ z. record { action = a; at = i } ∷ z) (one_derivation i τ ks hs q.0 fits d q.2)
  one_derivation i σ ks es fs fits (rule {n = n} {σ = τ} {body = body} P d) e =
      let q = forced g o c ex i n τ ks fs e fits in
      let own : choose o n (next ks) ≡ Some body = is_chosen i n τ body ks es P d fits in
      let theirs : choose o n (next ks) ≡ Some q.0 = q.1 in
      let same : q.0 ≡ body = cc in
      one_derivation i (body ++ τ) ks es fs (fits_body g o c ex n τ body P fits) d
      (subst (λ z. Derives g i (z ++ τ) ks fs) same q.2)

  ends : (k : ℕ) → Comes g o c [] k → Has (follow_of c 0) k
  ends zero h = ended g o c ex
  ends (suc k) h = absurd (let e = one_is (suc k) 0 h in omega arith)

  pub one_word : (ks : List ℕ) (es fs : List Event) → Derives g 0 (Rule 0 ∷ []) ks es
      → Derives g 0 (Rule 0 ∷ []) ks fs → fs ≡ es
  one_word ks es fs d e = one_derivation 0 (Rule 0 ∷ []) ks es fs (started g o c ex, ends, tt) d e

-- ---- and so each text is read in one way

module _ (o : Table) (same : rules o notes ≡ grammar) (passes : is_exact o notes ≡ true) where
  one_reading : (ls : List Lexeme) (p q : Program) → Reads ls p → Reads ls q → p ≡ q
  one_reading ls p q r s =
      let a = complete ls p r in
      let b = complete ls q s in
      let ex : Exact grammar o notes = subst (λ g. Exact g o notes) same (exact o notes passes) in
      let one = one_word grammar o notes ex (map kind ls) a.events b.events a.derives b.derives in
      sym a.same ∙ ap (program_of ls) (sym one) ∙ b.same

  pub one_program : (text : List ℕ) (p q : Program) → Spells text p → Spells text q → p ≡ q
  one_program text p q s t =
      let at = scanned_as s.tokens in
      one_reading _ p q (spelled_reads text _ p at s) (spelled_reads text _ q at t)
