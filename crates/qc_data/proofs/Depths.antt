-- The depth of pairs that are taken from a list one after another.
use Rattle.std.proofs.Common.{◌≡◌, ℕ, ◌+◌, ◌*◌, ◌≤◌, ◌<◌, List, ◌∷◌, ap, arith}
use Prim.Native.Nat.{max}
use denote.Param.Weighed.{most}

-- by any depth, what is left is no deeper than all
abbrev pub NoDeeper : {X : Type 0} → List X → List X → Type 0
NoDeeper {X} left all = (depth : X → ℕ) → most depth left ≤ most depth all

-- before the first is taken
pub none_out : {X : Type 0} (left all : List X) → left ≡ all → NoDeeper left all
none_out left all is = λ depth. rw is (omega arith)

-- once one more is taken
pub one_out : {X : Type 0} (all old left : List X) (p : X) → old ≡ p ∷ left → NoDeeper old all → NoDeeper left all
one_out all old left p step none = λ depth.
    let parts : most depth old ≡ max (depth p) (most depth left) = ap (most depth) step in
    omega (arith, none depth)

-- the value of a pair that is taken is below them all
pub value_below : {K V : Type 0} (depth : V → ℕ) (all old left : List (K × V)) (p : K × V) (t : ℕ) → old ≡ p ∷ left
    → NoDeeper old all → 3 * most (λ q. max 0 (depth q.1)) all + 1 ≡ t → 3 * depth p.1 + 0 < t
value_below depth all old left p t step none is =
    let parts : most (λ q. max 0 (depth q.1)) old ≡ max (max 0 (depth p.1)) (most (λ q. max 0 (depth q.1)) left)
    = ap (most (λ q. max 0 (depth q.1))) step in
    omega (arith, none (λ q. max 0 (depth q.1)))
