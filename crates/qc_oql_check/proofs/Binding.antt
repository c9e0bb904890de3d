-- The sources of a select, each bound for the later ones.
use Rattle.std.proofs.Common.{◌≡◌, ℕ, suc, ◌+◌, ◌<◌, List, [], ◌∷◌, ◌++◌, length, get_or, drop, map, refl, sym, ap, ◌∙◌}
use Rattle.std.proofs.Common.{add-one, drop-cons}
use Rattle.std.specs.Prelude.{Ok}
use Rattle.qc_types.specs.declared.ty.Ty.{Ty}
use Rattle.qc_types.specs.Schemas.{SchemaOf}
use Rattle.qc_oql_tree.specs.declared.tree.Named.{Named}
use Rattle.qc_oql_tree.specs.declared.tree.Oql.TheViews.{out-Named}
use Rattle.qc_oql_tree.specs.FormTypings.{Types, NamedTyping, source_type, sources_bound}
use Rattle.qc_oql_check.specs.inner.Scopes.{onto}
use Rattle.qc_oql_tree.specs.Typing.{named_type}
use Rattle.qc_oql_check.proofs.Forms.{named_name}

-- the last binding of a row is the newest
onto_last : (row : Types) (b : List ℕ × Ty) (s : Types) → onto (row ++ b ∷ []) s ≡ b ∷ onto row s
onto_last [] b s = refl
onto_last (a ∷ row) b s = onto_last row b (a ∷ s)

-- one source
one_more : (source : NamedTyping) (sources : List NamedTyping) (row s : Types) (t : Ty) (name : List ℕ)
    → source_type source (onto row s) ≡ Ok t → source.name ≡ name
    → sources_bound (source ∷ sources) (onto row s) ≡ sources_bound sources (onto (row ++ (name, t) ∷ []) s)
one_more source sources row s t name h n = rw (h, n, onto_last row (name, t) s) refl

-- the source at a place, behind those that the row binds
pub bound_more : (c : SchemaOf) (sources : List Named) (i : ℕ) (source : Named) (s row seen more : Types) (t : Ty)
    (name : List ℕ)
    → i < length sources → source ≡ get_or sources i source → seen ≡ row
    → source_type (named_type c source) (onto seen s) ≡ Ok t → name ≡ (out-Named source).name
    → more ≡ row ++ (name, t) ∷ []
    → sources_bound (map (named_type c) sources) s ≡ sources_bound (map (named_type c) (drop i sources)) (onto row s)
    → sources_bound (map (named_type c) sources) s
    ≡ sources_bound (map (named_type c) (drop (i + 1) sources)) (onto more s)
bound_more c sources i source s row seen more t name lt is se h n m e =
    let first : drop i sources ≡ source ∷ drop (suc i) sources =
    drop-cons sources i source lt ∙ ap (λ x. x ∷ drop (suc i) sources) (sym is) in
    let own : (named_type c source).name ≡ name = named_name c source ∙ sym n in
    let typed : source_type (named_type c source) (onto row s) ≡ Ok t = rw (← se) h in
    e ∙ ap (λ l. sources_bound (map (named_type c) l) (onto row s)) first
    ∙ one_more (named_type c source) (map (named_type c) (drop (suc i) sources)) row s t name typed own
    ∙ rw (add-one, m) refl
