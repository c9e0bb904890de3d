-- The grammar and the table say the same.
use Rattle.std.proofs.Common.{◌≡◌, ℕ, List, [], ◌∷◌, length, drop, map, refl, sym, ap, ◌∙◌, subst, arith}
use Rattle.std.specs.Prelude.{Result, Ok, Err}
use Rattle.qc_grammar.specs.declared.fault.SyntaxFault.{SyntaxFault}
use Rattle.qc_grammar.specs.declared.symbol.Event.{Event}
use Rattle.qc_grammar.specs.declared.symbol.Symbol.TheVariants.{Rule}
use Rattle.qc_grammar.specs.inner.Derivations.{Derives, nothing, Whole}
use Rattle.qc_grammar.specs.Parsing.{Parses}
use Rattle.qc_grammar.proofs.Lifted as lifted
use Rattle.qc_grammar.proofs.Lifted.{map_length}
use Rattle.qc_lex.specs.declared.token.Lexeme.{Lexeme}
use Rattle.qc_oql_tree.specs.declared.tree.Query as queries
use Rattle.qc_oql_tree.specs.Grammar as rel
use Rattle.qc_oql_tree.specs.Lexemes.{kind}
use Rattle.qc_oql_table.specs.declared.value.Value.TheVariants.{Tree, Entries}
use Rattle.qc_oql_table.specs.Actions as actions
use Rattle.qc_oql_table.specs.Actions.{act, made, query_of}
use Rattle.qc_oql_table.specs.inner.Meaning.{Means}
use Rattle.qc_oql_table.specs.Table.{grammar}
use Rattle.qc_oql_table.specs.Values.{Values}
use Rattle.qc_oql_table.proofs.Closed.{closed}
use Rattle.qc_oql_table.proofs.Complete.{of_query}
use Rattle.qc_grammar.proofs.Same as same
use Rattle.qc_grammar.proofs.Walks as walks
use Rattle.qc_oql_table.proofs.Samples.{sample, sampled}
use Rattle.qc_oql_table.proofs.Words.{Queried, words}

module _ (ts : List Lexeme) where
  abbrev K : List ℕ
  K = map kind ts

  runs : (es : List Event) (s : Values) → walks.run (act ts) es s ≡ actions.run ts es s
  runs [] s = refl
  runs (e ∷ es) s = runs es (act ts e.action e.at s)

  by_walk : (q : queries.Query) (s : Values) → walks.Walks grammar K (act ts) 0 (Rule 0 ∷ []) [] (length ts) s
      → actions.query s ≡ q → Means ts q
  by_walk q s w e =
      let end : drop (length ts) K ≡ [] = subst (λ z. drop z K ≡ []) (map_length kind ts) (walks.drop_end K) in
      let r = walks.flat grammar K (act ts) 0 (length ts) (Rule 0 ∷ []) [] [] s [] w
      (subst (λ z. Derives grammar (length ts) [] z []) (sym end) nothing) in
      record { events = r.0; derives = r.1; same = ap actions.query (sym (runs r.0 []) ∙ r.2) ∙ e }

  pub complete : (q : queries.Query) → rel.Query ts q → Means ts q
  complete q (rel.query {ds = ds} {x = x} d f e) = by_walk q (Tree x ∷ Entries ds ∷ []) (of_query ts d f e) refl

  -- what the actions of a derivation leave
  data Leaves (j : ℕ) : Values → Type 0 where
    leaves : (w : Queried ts 0) → w.end ≡ j → Leaves j (Tree w.body ∷ Entries w.defines ∷ [])

  spelled : (s : Values) → Leaves (length ts) s → rel.Query ts (actions.query s)
  spelled s (leaves w e) = rel.query w.defined w.spelled (subst (λ z. rel.Ending ts w.k z) e w.ended)

  pub sound : (q : queries.Query) → Means ts q → rel.Query ts q
  sound q d =
      let p = walks.sound K (act ts) (words ts) grammar (closed ts) 0 (Rule 0 ∷ []) K d.events []
      (λ j t. Leaves j t) d.derives (omega arith) refl (λ w. leaves w refl) in
      let l = subst (λ z. Leaves z (walks.run (act ts) d.events [])) (map_length kind ts) p in
      subst (λ z. rel.Query ts z) (ap actions.query (runs d.events []) ∙ d.same)
      (spelled (walks.run (act ts) d.events []) l)

-- what is made of the derivation of a list's kinds is the query that the list spells, and where there is none the fault
-- is the same
pub parses : (ts : List Lexeme) (r : Result (List Event) SyntaxFault) → Parses (Whole grammar) (map kind ts) r
    → Parses rel.Query ts (made ts r)
parses ts (Ok es) p =
    let q = query_of ts es in
    same.parses Means rel.Query sound complete ts (Ok q)
    (lifted.spelled grammar kind sample sampled query_of ts es q p refl)
parses ts (Err fault) p =
    same.parses Means rel.Query sound complete ts (Err fault)
    (lifted.faulted grammar kind sample sampled query_of ts fault p)
