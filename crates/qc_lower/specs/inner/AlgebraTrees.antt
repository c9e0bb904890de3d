-- The trees of the calculus for those of the algebra. One variable holds the input and one the environment. A form
-- takes the first variables that are free to use, and hands what comes after them to the parts under its binders.
use Rattle.std.specs.Prelude.{ℕ, ◌+◌, []}
use Rattle.qc_data.specs.declared.data.Datum.TheVariants as datum
use Rattle.qc_ops.specs.declared.op.Unary.TheVariants as one
use Rattle.qc_ops.specs.declared.op.Binary.TheVariants as two
use Rattle.qc_nra.specs.declared.tree.Nra.{Nra}
use Rattle.qc_nra.specs.declared.tree.Nra.TheOpen.{Nra-F}
use Rattle.qc_nra.specs.declared.tree.Nra.TheFolds.{fold-Nra}
use Rattle.qc_nnrc.specs.declared.tree.Nnrc.{Nnrc}
use Rattle.qc_nnrc.specs.declared.tree.Nnrc.TheVariants as to

-- a tree, by the variables of the input and the environment, and the first one that is free to use
abbrev pub Lowering : Type 0
Lowering = ℕ → ℕ → ℕ → Nnrc

-- the empty collection
abbrev pub none : Nnrc
none = to.Const (datum.Coll [])

-- the member at n alone where the test is true
abbrev pub tested : ℕ → Nnrc → Nnrc
tested n test = to.If test (to.Unary one.Single (to.Var n)) none

-- the record at n with each of the members
abbrev pub beside : ℕ → Nnrc → Nnrc
beside n members = to.For (n + 1) members (to.Binary two.Cat (to.Var n) (to.Var (n + 1)))

-- each pair of members of the collections at n and at n + 1
abbrev pub paired : ℕ → Nnrc
paired n = to.Unary one.Flatten (to.For (n + 2) (to.Var n) (beside (n + 2) (to.Var (n + 1))))

-- the collection at n where it has members, or else the other one
abbrev pub or_else : ℕ → Nnrc → Nnrc
or_else n other = to.If (to.Binary two.Eq (to.Var n) none) other (to.Var n)

-- a form, by the trees of its parts
abbrev pub lower_form : Nra-F Lowering → Lowering
lower_form (Nra-F.Const d) i e n = to.Const d
lower_form Nra-F.Input i e n = to.Var i
lower_form Nra-F.Env i e n = to.Var e
lower_form (Nra-F.Global name) i e n = to.Global name
lower_form (Nra-F.Unary op a) i e n = to.Unary op (a i e n)
lower_form (Nra-F.Binary op a b) i e n = to.Binary op (a i e n) (b i e n)
lower_form (Nra-F.Comp a b) i e n = to.Let n (b i e n) (a n e (n + 1))
lower_form (Nra-F.Map a b) i e n = to.For n (b i e n) (a n e (n + 1))
lower_form (Nra-F.Select a b) i e n = to.Unary one.Flatten (to.For n (b i e n) (tested n (a n e (n + 1))))
lower_form (Nra-F.Product a b) i e n = to.Let n (a i e n) (to.Let (n + 1) (b i e (n + 1)) (paired n))
lower_form (Nra-F.DepJoin a b) i e n = to.Unary one.Flatten (to.For n (b i e n) (beside n (a n e (n + 1))))
lower_form (Nra-F.Default a b) i e n = to.Let n (a i e n) (or_else n (b i e (n + 1)))
lower_form (Nra-F.EnvComp a b) i e n = to.Let n (b i e n) (a i n (n + 1))
lower_form (Nra-F.MapEnv a) i e n = to.For n (to.Var e) (a i n (n + 1))
lower_form (Nra-F.Either a b) i e n = to.Either (to.Var i) n (a n e (n + 1)) n (b n e (n + 1))
lower_form (Nra-F.If a b c) i e n = to.If (a i e n) (b i e n) (c i e n)

-- a tree by its parts
abbrev pub lower : Nra → Lowering
lower q = fold-Nra Lowering lower_form q

-- a whole tree: its input is unit, and its environment the record without fields
abbrev pub lowered : Nra → Nnrc
lowered q = to.Let 0 (to.Const datum.Unit) (to.Let 1 (to.Const (datum.Rec [])) (lower q 0 1 2))
