-- The names of scopes.
use Rattle.std.proofs.Common.{◌≡◌, ℕ, Bool, true, false, ◌||◌, List, [], ◌∷◌, map, refl, ap, ◌∙◌}
use Rattle.std.specs.Str.{bytes_eq}
use Rattle.qc_oql_tree.specs.declared.tree.Named.{Named}
use Rattle.qc_oql_tree.specs.declared.tree.Oql.TheViews.{out-Named}
use Rattle.qc_oql_nra.specs.OqlForms.{Scope, is_bound, with_sources}
use Rattle.qc_oql_nra.specs.OqlTrees.{named_tree}
use Rattle.qc_to_nra.specs.inner.Scopes.{is_source}
use Rattle.qc_oql_nra.proofs.OqlTreeForms.{named_name}

or_later : (a b c : Bool) → (a || (b || c)) ≡ ((b || a) || c)
or_later true true c = refl
or_later true false c = refl
or_later false true c = refl
or_later false false c = refl

-- a name is bound behind sources where one of them has it, or it was bound before
pub bound_behind : (name : List ℕ) (xs : List Named) (s : Scope)
    → is_bound name (with_sources (map named_tree xs) s) ≡ (is_source name xs || is_bound name s)
bound_behind name [] s = refl
bound_behind name (x ∷ xs) s =
    bound_behind name xs ((named_tree x).0 ∷ s)
    ∙ ap (λ n. is_source name xs || (bytes_eq n name || is_bound name s)) (named_name x)
    ∙ or_later (is_source name xs) (bytes_eq (out-Named x).name name) (is_bound name s)
