-- The names that scopes of the code hold.
use Rattle.std.specs.Prelude.{ℕ, Bool, false, ◌||◌, List, [], ◌∷◌, map}
use Rattle.std.specs.Str.{bytes_eq}
use Rattle.qc_oql_tree.specs.declared.tree.Named.{Named}
use Rattle.qc_oql_tree.specs.declared.tree.Oql.TheViews.{out-Named}
use Rattle.qc_to_nra.specs.declared.scope.Scope.{Scope}
use Rattle.qc_to_nra.specs.declared.scope.Scope.TheVariants as scope
use Rattle.qc_oql_nra.specs.OqlForms as forms
use Rattle.qc_oql_nra.specs.OqlForms.{with_sources}
use Rattle.qc_oql_nra.specs.OqlTrees.{named_tree}

-- the names of a scope, the newest first
abbrev pub names_of : Scope → forms.Scope
names_of scope.Empty = []
names_of (scope.Bind' name p outer) = name.now ∷ names_of outer
names_of (scope.Sources' sources p outer) = with_sources (map named_tree sources.now) (names_of outer)

-- a source has the name
abbrev pub is_source : List ℕ → List Named → Bool
is_source name [] = false
is_source name (x ∷ xs) = bytes_eq (out-Named x).name name || is_source name xs
