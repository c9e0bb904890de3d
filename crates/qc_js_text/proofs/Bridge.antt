-- The table spells the programs, and no others.
use Rattle.std.proofs.Common.{◌≡◌, ℕ, List, [], ◌∷◌, length, drop, map, refl, sym, ap, ◌∙◌, subst, arith}
use Rattle.std.specs.Prelude.{Result, Ok, Err}
use Rattle.qc_grammar.specs.declared.fault.SyntaxFault.{SyntaxFault}
use Rattle.qc_grammar.specs.declared.symbol.Event.{Event}
use Rattle.qc_grammar.specs.declared.symbol.Symbol.TheVariants.{Rule}
use Rattle.qc_grammar.specs.inner.Derivations.{Derives, nothing, Whole}
use Rattle.qc_grammar.specs.inner.Language as language
use Rattle.qc_grammar.specs.Parsing.{Parses}
use Rattle.qc_grammar.proofs.Lifted as lifted
use Rattle.qc_grammar.proofs.Lifted.{map_length}
use Rattle.qc_grammar.proofs.Same as same
use Rattle.qc_grammar.proofs.Walks as walks
use Rattle.qc_js.specs.declared.tree.Program.{Program}
use Rattle.qc_js_lex.specs.declared.lexeme.Lexeme.{Lexeme}
use Rattle.qc_js_lex.specs.Lexemes.{kind}
use Rattle.qc_js_text.specs.declared.value.Value.TheVariants.{Tree, Statements}
use Rattle.qc_js_text.specs.Table.{grammar}
use Rattle.qc_js_text.specs.inner.Actions as actions
use Rattle.qc_js_text.specs.inner.Actions.{act, made, program_of}
use Rattle.qc_js_text.specs.inner.Trees.{Reads, program_lexemes}
use Rattle.qc_js_text.specs.inner.Values.{Values}
use Rattle.qc_js_text.proofs.Closings.{closed}
use Rattle.qc_js_text.proofs.Kepts.{Programmed, words}
use Rattle.qc_js_text.proofs.Samples.{sample, sampled}
use Rattle.qc_js_text.proofs.Spans.{Spans, whole, is_whole}
use Rattle.qc_js_text.proofs.Walking as walking

-- the lexemes have a derivation whose actions make the program
abbrev Means : List Lexeme → Program → Type 0
Means ls p = language.Means grammar kind program_of ls p

module _ (ls : List Lexeme) where
  abbrev K : List ℕ
  K = map kind ls

  runs : (es : List Event) (s : Values) → walks.run (act ls) es s ≡ actions.run ls es s
  runs [] s = refl
  runs (e ∷ es) s = runs es (act ls e.action e.at s)

  by_walk : (p : Program) (s : Values) → walks.Walks grammar K (act ls) 0 (Rule 0 ∷ []) [] (length ls) s
      → actions.program s ≡ p → Means ls p
  by_walk p s w e =
      let end : drop (length ls) K ≡ [] = subst (λ z. drop z K ≡ []) (map_length kind ls) (walks.drop_end K) in
      let r = walks.flat grammar K (act ls) 0 (length ls) (Rule 0 ∷ []) [] [] s [] w
      (subst (λ z. Derives grammar (length ls) [] z []) (sym end) nothing) in
      record { events = r.0; derives = r.1; same = ap actions.program (sym (runs r.0 []) ∙ r.2) ∙ e }

  pub complete : (p : Program) → Reads ls p → Means ls p
  complete p r =
      by_walk p (Tree p.result ∷ Statements p.body ∷ [])
      (walking.program ls p r.told (length ls) (subst (λ z. Spans ls 0 z (length ls)) r.lexemes (whole ls))) refl

  -- what the actions of a derivation leave
  data Leaves (j : ℕ) : Values → Type 0 where
    leaves : (w : Programmed ls 0) → w.end ≡ j → Leaves j (Tree w.result ∷ Statements w.body ∷ [])

  spelled : (s : Values) → Leaves (length ls) s → Reads ls (actions.program s)
  spelled s (leaves w e) =
      let ms = program_lexemes (record { body = w.body; result = w.result }) in
      record { told = w.told; lexemes = is_whole ls ms (subst (λ z. Spans ls 0 ms z) e w.spans) }

  pub sound : (p : Program) → Means ls p → Reads ls p
  sound p d =
      let q = walks.sound K (act ls) (words ls) grammar (closed ls) 0 (Rule 0 ∷ []) K d.events []
      (λ j t. Leaves j t) d.derives (omega arith) refl (λ w. leaves w refl) in
      let l = subst (λ z. Leaves z (walks.run (act ls) d.events [])) (map_length kind ls) q in
      subst (λ z. Reads ls z) (ap actions.program (runs d.events []) ∙ d.same)
      (spelled (walks.run (act ls) d.events []) l)

-- what is made of the derivation of a list's kinds is the program whose lexemes the list has, and where there is none
-- the fault is the same
pub parses : (ls : List Lexeme) (r : Result (List Event) SyntaxFault) → Parses (Whole grammar) (map kind ls) r
    → Parses Reads ls (made ls r)
parses ls (Ok es) p =
    let q = program_of ls es in
    same.parses Means Reads sound complete ls (Ok q)
    (lifted.spelled grammar kind sample sampled program_of ls es q p refl)
parses ls (Err fault) p =
    same.parses Means Reads sound complete ls (Err fault)
    (lifted.faulted grammar kind sample sampled program_of ls fault p)
