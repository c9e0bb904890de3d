-- What a call that answers the tree for a query keeps.
use Rattle.std.proofs.Common.{◌≡◌, ◌≤◌, ◌*◌, [], sym, subst}
use Rattle.std.specs.Prelude.{Result, Ok, Err, IfOk}
use Rattle.qc_containers.specs.declared.memory.Memory.{Memory}
use Rattle.qc_data.specs.Outcome.{IsKept, Mode}
use Rattle.qc_data.specs.declared.data.Datum.TheVariants.{Rec, Unit as Nothing}
use Rattle.qc_nra.specs.declared.tree.Nra.{Nra}
use Rattle.qc_nra.specs.Meaning.{nra}
use Rattle.qc_nra.specs.Sizes.{size}
use Rattle.qc_lang.specs.Keeping.{Keeps}
use Rattle.qc_oql_tree.specs.declared.tree.Query.{Query}
use Rattle.qc_oql_tree.specs.Meaning.{query}
use Rattle.qc_oql_tree.specs.Sizes.{query_size}
use Rattle.qc_types.specs.Schemas.{SchemaOf, WorldOf}
use Rattle.qc_oql_nra.specs.OqlTrees.{query_tree}
use Rattle.qc_oql_nra.proofs.OqlKept.{kept_query}
use Rattle.qc_oql_nra.proofs.OqlSizes.{query_fits}

-- the value of the query
pub answered : (q : Query) (r : Result Nra Memory) → IfOk r (λ made. made ≡ query_tree q)
    → IfOk r (λ made. (m : Mode) (w : WorldOf) → IsKept (query m w q) (nra m w made Nothing (Rec [])))
answered q (Ok made) e =
    λ m w. subst (λ t. IsKept (query m w q) (nra m w t Nothing (Rec []))) (sym e) (kept_query m w q)
answered q (Err x) e = tt

-- the size of the query
pub sized : (q : Query) (r : Result Nra Memory) → IfOk r (λ made. made ≡ query_tree q)
    → IfOk r (λ made. size made ≤ 32 * query_size q)
sized q (Ok made) e = subst (λ t. size t ≤ 32 * query_size q) (sym e) (query_fits q)
sized q (Err x) e = tt

-- the same in the worlds of a schema
pub keeps_in : (schema : SchemaOf) (q : Query) (r : Result Nra Memory)
    → IfOk r (λ made. (m : Mode) (w : WorldOf) → IsKept (query m w q) (nra m w made Nothing (Rec [])))
    → IfOk r (λ to. Keeps schema (λ m w. query m w q) (λ m w. nra m w to Nothing (Rec [])))
keeps_in schema q (Ok made) h = record { kept = λ m w is. h m w }
keeps_in schema q (Err x) h = tt
