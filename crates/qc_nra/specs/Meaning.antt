-- What trees of the algebra mean, by mode and world, their input and their environment.
use Rattle.std.specs.Prelude.{cond}
use Rattle.qc_data.specs.Outcome.{Mode, Value, and_then}
use Rattle.qc_ops.specs.Operands.{found}
use Rattle.qc_ops.specs.Operators.{unary, binary}
use Rattle.qc_types.specs.Schemas.{WorldOf, global}
use Rattle.qc_trees.specs.Branches.{truth}
use Rattle.qc_ops.specs.Sides.{by_side}
use Rattle.qc_nra.specs.declared.tree.Nra.{Nra}
use Rattle.qc_nra.specs.declared.tree.Nra.TheOpen.{Nra-F}
use Rattle.qc_nra.specs.declared.tree.Nra.TheFolds.{fold-Nra}
use Rattle.qc_nra.specs.Forms.{Meaning, map_of, select_of, product_of, join_of, default_of, env_map_of}

-- a tree by the meanings of its parts, its input i and its environment e
abbrev pub form : Mode → WorldOf → Nra-F Meaning → Meaning
form m w (Nra-F.Const d) i e = Value d
form m w Nra-F.Input i e = Value i
form m w Nra-F.Env i e = Value e
form m w (Nra-F.Global name) i e = found (global name w.datum)
form m w (Nra-F.Unary op a) i e = and_then (a i e) (unary m w.classes op)
form m w (Nra-F.Binary op a b) i e = and_then (a i e) (λ x. and_then (b i e) (λ y. binary m op x y))
form m w (Nra-F.Comp a b) i e = and_then (b i e) (λ v. a v e)
form m w (Nra-F.Map a b) i e = and_then (b i e) (map_of a e)
form m w (Nra-F.Select a b) i e = and_then (b i e) (select_of a e)
form m w (Nra-F.Product a b) i e = and_then (a i e) (λ v. and_then (b i e) (product_of v))
form m w (Nra-F.DepJoin a b) i e = and_then (b i e) (join_of a e)
form m w (Nra-F.Default a b) i e = and_then (a i e) (default_of (b i e))
form m w (Nra-F.EnvComp a b) i e = and_then (b i e) (λ v. a i v)
form m w (Nra-F.MapEnv a) i e = env_map_of a i e
form m w (Nra-F.Either a b) i e = by_side (λ v. a v e) (λ v. b v e) i
form m w (Nra-F.If a b c) i e = and_then (truth (a i e)) (λ holds. cond holds (b i e) (c i e))

-- the outcome of a tree in a mode and a world, by its input and its environment
abbrev pub nra : Mode → WorldOf → Nra → Meaning
nra m w q = fold-Nra Meaning (form m w) q
