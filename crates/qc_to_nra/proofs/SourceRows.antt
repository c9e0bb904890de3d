-- The rows of sources, one source after another.
use Rattle.std.proofs.Common.{◌≡◌, ℕ, suc, ◌+◌, ◌<◌, List, [], ◌∷◌, ◌++◌, length, get_or, drop, take, map, refl, sym}
use Rattle.std.proofs.Common.{ap, ◌∙◌, add-one, drop-cons}
use Rattle.std.proofs.Math.Seq.{take-suc}
use Rattle.std.proofs.lemmas.List.{map-append}
use Rattle.qc_nra.specs.declared.tree.Nra.{Nra}
use Rattle.qc_nra.specs.declared.tree.Nra.TheVariants as nra
use Rattle.qc_ops.specs.declared.op.Unary.TheVariants as one
use Rattle.qc_oql_tree.specs.declared.tree.Named.{Named}
use Rattle.qc_oql_tree.specs.declared.tree.Oql.TheViews.{out-Named}
use Rattle.qc_oql_nra.specs.OqlForms.{NamedTranslation, Scope, at_row, joined_tree, rows_tree, with_sources}
use Rattle.qc_oql_nra.specs.OqlTrees.{named_tree}
use Rattle.qc_oql_nra.proofs.OqlTreeForms.{named_name}

with_last : (ts : List NamedTranslation) (t : NamedTranslation) (s : Scope)
    → with_sources (ts ++ t ∷ []) s ≡ t.0 ∷ with_sources ts s
with_last [] t s = refl
with_last (u ∷ ts) t s = with_last ts t (u.0 ∷ s)

-- the names behind a source
names_more : (sources : List Named) (i : ℕ) (source : Named) (s : Scope) → i < length sources
    → source ≡ get_or sources i source
    → with_sources (map named_tree (take (suc i) sources)) s
    ≡ (named_tree source).0 ∷ with_sources (map named_tree (take i sources)) s
names_more sources i source s lt is =
    ap (λ l. with_sources (map named_tree l) s)
    (take-suc sources i source lt ∙ ap (λ x. take i sources ++ x ∷ []) (sym is))
    ∙ ap (λ l. with_sources l s) (map-append named_tree (take i sources) (source ∷ []))
    ∙ with_last (map named_tree (take i sources)) (named_tree source) s

joined_named : (source : Named) (s : Scope) (members rows : Nra) → members ≡ (named_tree source).1 s
    → joined_tree ((out-Named source).name, λ t. members) [] rows ≡ joined_tree (named_tree source) s rows
joined_named source s members rows e =
    ap (λ n. nra.DepJoin (nra.Map (nra.Unary (one.Rec n) nra.Input) (at_row members)) rows) (sym (named_name source))
    ∙ ap (λ a. nra.DepJoin (nra.Map (nra.Unary (one.Rec (named_tree source).0) nra.Input) (at_row a)) rows) e

-- the source at a place, behind those before it
pub rows_more : (sources : List Named) (i : ℕ) (source : Named) (s : Scope) (whole members rows more : Nra)
    → i < length sources → source ≡ get_or sources i source
    → members ≡ (named_tree source).1 (with_sources (map named_tree (take i sources)) s)
    → more ≡ joined_tree ((out-Named source).name, λ t. members) [] rows
    → whole ≡ rows_tree (map named_tree (drop i sources)) (with_sources (map named_tree (take i sources)) s) rows
    → whole ≡ rows_tree (map named_tree (drop (i + 1) sources))
    (with_sources (map named_tree (take (i + 1) sources)) s) more
rows_more sources i source s whole members rows more lt is h e k =
    let inner = with_sources (map named_tree (take i sources)) s in
    let later = map named_tree (drop (suc i) sources) in
    let first : drop i sources ≡ source ∷ drop (suc i) sources =
    drop-cons sources i source lt ∙ ap (λ x. x ∷ drop (suc i) sources) (sym is) in
    let next : more ≡ joined_tree (named_tree source) inner rows = e ∙ joined_named source inner members rows h in
    k ∙ ap (λ l. rows_tree (map named_tree l) inner rows) first
    ∙ ap (λ r. rows_tree later ((named_tree source).0 ∷ inner) r) (sym next)
    ∙ ap (λ n. rows_tree later n more) (sym (names_more sources i source s lt is)) ∙ rw add-one refl
