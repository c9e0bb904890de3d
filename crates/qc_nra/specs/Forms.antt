-- What the forms of the algebra do with the values and the meanings of their parts. The first outcome that is no value
-- decides.
use Rattle.std.specs.Prelude.{cond, List, [], ◌∷◌}
use Rattle.qc_data.specs.Kinds.{as_coll}
use Rattle.qc_data.specs.Outcome.{Outcome, Value, and_then, gather, each}
use Rattle.qc_data.specs.declared.data.Datum.{Datum}
use Rattle.qc_data.specs.declared.data.Datum.TheVariants.{Coll}
use Rattle.qc_ops.specs.Operands.{as_rec, bag}
use Rattle.qc_ops.specs.Records.{concatenation}
use Rattle.qc_trees.specs.Branches.{truth}

-- the outcome of a tree, by its input and its environment
abbrev pub Meaning : Type 0
Meaning = Datum → Datum → Outcome Datum

-- map: a body with each member as its input
unfoldable pub map_of : Meaning → Datum → Datum → Outcome Datum
map_of a e v = and_then (as_coll v) (λ xs. bag (each (λ x. a x e) xs))

-- the member alone where the body is true with it as its input
unfoldable pub kept : Meaning → Datum → Datum → Outcome (List Datum)
kept a e x = and_then (truth (a x e)) (λ holds. Value (cond holds (x ∷ []) []))

-- select: the members on which a body is true
unfoldable pub select_of : Meaning → Datum → Datum → Outcome Datum
select_of a e v = and_then (as_coll v) (λ xs. bag (gather (kept a e) xs))

-- a record with each of the members
unfoldable pub beside : List Datum → Datum → Outcome (List Datum)
beside ys x = each (concatenation x) ys

-- product: each pair, the first collection outermost
unfoldable pub product_of : Datum → Datum → Outcome Datum
product_of v w = and_then (as_coll v) (λ xs. and_then (as_coll w) (λ ys. bag (gather (beside ys) xs)))

-- a record with each member of what a body gives with it as its input
unfoldable pub joined : Meaning → Datum → Datum → Outcome (List Datum)
joined a e x = and_then (as_rec x) (λ fields. and_then (a x e) (λ w. and_then (as_coll w) (λ ys. beside ys x)))

-- djoin: each record with its members
unfoldable pub join_of : Meaning → Datum → Datum → Outcome Datum
join_of a e v = and_then (as_coll v) (λ xs. bag (gather (joined a e) xs))

-- the members, or where there are none the other collection
unfoldable pub members_or : Outcome Datum → List Datum → Outcome Datum
members_or o [] = and_then o (λ w. bag (as_coll w))
members_or o (x ∷ xs) = Value (Coll (x ∷ xs))

-- default: a collection that has members, or else the other one
unfoldable pub default_of : Outcome Datum → Datum → Outcome Datum
default_of o v = and_then (as_coll v) (members_or o)

-- mapenv: a body with each member of the environment as its environment
unfoldable pub env_map_of : Meaning → Datum → Datum → Outcome Datum
env_map_of a i e = and_then (as_coll e) (λ xs. bag (each (λ x. a i x) xs))
