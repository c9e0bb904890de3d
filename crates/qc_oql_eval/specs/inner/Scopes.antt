-- The bindings that scopes of the code hold.
use Rattle.std.specs.Prelude.{[], ◌∷◌, ◌++◌}
use Rattle.qc_oql_tree.specs.Bindings.{Bindings}
use Rattle.qc_oql_eval.specs.declared.scope.Scope.{Scope}
use Rattle.qc_oql_eval.specs.declared.scope.Scope.TheVariants as scope

-- the bindings of a scope
abbrev pub bindings_of : Scope → Bindings
bindings_of scope.Empty = []
bindings_of (scope.Bind' name d p outer) = (name.now, d.now) ∷ bindings_of outer
bindings_of (scope.Row' row p outer) = row.now ++ bindings_of outer
