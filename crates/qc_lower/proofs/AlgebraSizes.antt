-- The size of the tree for one of the algebra, and the variables that are free in it.
use Rattle.std.proofs.Common.{◌≡◌, ◌≢◌, ◌≤◌, ◌==◌, ℕ, ◌+◌, ◌*◌, Bool, true, false, not, ◌&&◌, ◌||◌, [], refl}
use Rattle.std.proofs.Common.{ap, ◌∙◌, arith}
use Rattle.std.proofs.lemmas.Bool.Decides.{nat_tests}
use Rattle.qc_data.specs.declared.data.Datum.{Datum}
use Rattle.qc_data.specs.declared.data.Datum.TheVariants as datum
use Rattle.qc_ops.specs.declared.op.Unary.{Unary}
use Rattle.qc_ops.specs.declared.op.Unary.TheVariants as one
use Rattle.qc_ops.specs.declared.op.Binary.{Binary}
use Rattle.qc_ops.specs.declared.op.Binary.TheVariants as two
use Rattle.qc_nra.specs.declared.tree.Nra.{Nra}
use Rattle.qc_nra.specs.declared.tree.Nra.TheOpen.{Nra-F}
use Rattle.qc_nra.specs.declared.tree.Nra.TheViews.{roll-Nra}
use Rattle.qc_nra.specs.declared.tree.Nra.TheFolds.{fold-roll-Nra, map-Nra}
use Rattle.qc_nra.specs.Laws as algebra
use Rattle.qc_nra.specs.Sizes.{size, node}
use Rattle.qc_nra.specs.inner.Induction.{Held, nra_ind}
use Rattle.qc_nnrc.specs.declared.tree.Nnrc.{Nnrc}
use Rattle.qc_nnrc.specs.declared.tree.Nnrc.TheVariants as to
use Rattle.qc_nnrc.specs.Free.{free, free_in, IsClosed}
use Rattle.qc_nnrc.specs.Sizes as calculus
use Rattle.qc_nnrc.proofs.TreeForms.{of-Var, of-Const, of-Global, of-Unary, of-Binary, of-Let, of-For, of-If, of-Either}
use Rattle.qc_lower.specs.inner.AlgebraTrees.{Lowering, none, tested, beside, paired, or_else, lower_form, lower}
use Rattle.qc_lower.specs.inner.AlgebraTrees.{lowered}

-- ---- sizes

abbrev count : Nnrc → ℕ
count t = calculus.size t

count-Var : (x : ℕ) → count (to.Var x) ≡ 1
count-Var x = of-Var ℕ calculus.node x

count-Const : (d : Datum) → count (to.Const d) ≡ 1
count-Const d = of-Const ℕ calculus.node d

count-Unary : (op : Unary) (a : Nnrc) → count (to.Unary op a) ≡ 1 + count a
count-Unary op a = of-Unary ℕ calculus.node op a

count-Binary : (op : Binary) (a b : Nnrc) → count (to.Binary op a b) ≡ 1 + (count a + count b)
count-Binary op a b = of-Binary ℕ calculus.node op a b

count-Let : (x : ℕ) (a b : Nnrc) → count (to.Let x a b) ≡ 1 + (count a + count b)
count-Let x a b = of-Let ℕ calculus.node x a b

count-For : (x : ℕ) (a b : Nnrc) → count (to.For x a b) ≡ 1 + (count a + count b)
count-For x a b = of-For ℕ calculus.node x a b

count-If : (a b c : Nnrc) → count (to.If a b c) ≡ 1 + (count a + (count b + count c))
count-If a b c = of-If ℕ calculus.node a b c

count-tested : (n : ℕ) (t : Nnrc) → count (tested n t) ≡ 4 + count t
count-tested n t =
    let single = to.Unary one.Single (to.Var n) in
    omega (arith, count-If t single none, count-Unary one.Single (to.Var n), count-Var n, count-Const (datum.Coll []))

count-beside : (n : ℕ) (t : Nnrc) → count (beside n t) ≡ 4 + count t
count-beside n t =
    let both = to.Binary two.Cat (to.Var n) (to.Var (n + 1)) in
    omega (
      arith,
      count-For (n + 1) t both,
      count-Binary two.Cat (to.Var n) (to.Var (n + 1)),
      count-Var n,
      count-Var (n + 1),
    )

count-paired : (n : ℕ) → count (paired n) ≡ 8
count-paired n =
    let body = beside (n + 2) (to.Var (n + 1)) in
    omega (
      arith,
      count-Unary one.Flatten (to.For (n + 2) (to.Var n) body),
      count-For (n + 2) (to.Var n) body,
      count-beside (n + 2) (to.Var (n + 1)),
      count-Var n,
      count-Var (n + 1),
    )

count-or_else : (n : ℕ) (t : Nnrc) → count (or_else n t) ≡ 5 + count t
count-or_else n t =
    let test = to.Binary two.Eq (to.Var n) none in
    omega (
      arith,
      count-If test t (to.Var n),
      count-Binary two.Eq (to.Var n) none,
      count-Var n,
      count-Const (datum.Coll []),
    )

abbrev Small : Nra → Type 0
Small q = (i e n : ℕ) → count (lower q i e n) ≤ 16 * size q

small_layer : (x : Nra-F Nra) → Held Small x → (i e n : ℕ)
    → count (lower_form (map-Nra Nra Lowering lower x) i e n) ≤ 16 * node (map-Nra Nra ℕ size x)
small_layer (Nra-F.Const d) h i e n = omega (arith, count-Const d)
small_layer Nra-F.Input h i e n = omega (arith, count-Var i)
small_layer Nra-F.Env h i e n = omega (arith, count-Var e)
small_layer (Nra-F.Global name) h i e n =
    let is : count (to.Global name) ≡ 1 = of-Global ℕ calculus.node name in omega (arith, is)
small_layer (Nra-F.Unary op a) h i e n = omega (arith, count-Unary op (lower a i e n), h i e n)
small_layer (Nra-F.Binary op a b) h i e n =
    omega (arith, count-Binary op (lower a i e n) (lower b i e n), h.0 i e n, h.1 i e n)
small_layer (Nra-F.Comp a b) h i e n =
    omega (arith, count-Let n (lower b i e n) (lower a n e (n + 1)), h.0 n e (n + 1), h.1 i e n)
small_layer (Nra-F.Map a b) h i e n =
    omega (arith, count-For n (lower b i e n) (lower a n e (n + 1)), h.0 n e (n + 1), h.1 i e n)
small_layer (Nra-F.Select a b) h i e n =
    let body = tested n (lower a n e (n + 1)) in
    omega (
      arith,
      count-Unary one.Flatten (to.For n (lower b i e n) body),
      count-For n (lower b i e n) body,
      count-tested n (lower a n e (n + 1)),
      h.0 n e (n + 1),
      h.1 i e n,
    )
small_layer (Nra-F.Product a b) h i e n =
    let body = to.Let (n + 1) (lower b i e (n + 1)) (paired n) in
    omega (
      arith,
      count-Let n (lower a i e n) body,
      count-Let (n + 1) (lower b i e (n + 1)) (paired n),
      count-paired n,
      h.0 i e n,
      h.1 i e (n + 1),
    )
small_layer (Nra-F.DepJoin a b) h i e n =
    let body = beside n (lower a n e (n + 1)) in
    omega (
      arith,
      count-Unary one.Flatten (to.For n (lower b i e n) body),
      count-For n (lower b i e n) body,
      count-beside n (lower a n e (n + 1)),
      h.0 n e (n + 1),
      h.1 i e n,
    )
small_layer (Nra-F.Default a b) h i e n =
    omega (
      arith,
      count-Let n (lower a i e n) (or_else n (lower b i e (n + 1))),
      count-or_else n (lower b i e (n + 1)),
      h.0 i e n,
      h.1 i e (n + 1),
    )
small_layer (Nra-F.EnvComp a b) h i e n =
    omega (arith, count-Let n (lower b i e n) (lower a i n (n + 1)), h.0 i n (n + 1), h.1 i e n)
small_layer (Nra-F.MapEnv a) h i e n =
    omega (arith, count-For n (to.Var e) (lower a i n (n + 1)), count-Var e, h i n (n + 1))
small_layer (Nra-F.Either a b) h i e n =
    let is : count (to.Either (to.Var i) n (lower a n e (n + 1)) n (lower b n e (n + 1)))
    ≡ 1 + (count (to.Var i) + (count (lower a n e (n + 1)) + count (lower b n e (n + 1)))) =
    of-Either ℕ calculus.node (to.Var i) n (lower a n e (n + 1)) n (lower b n e (n + 1)) in
    omega (arith, is, count-Var i, h.0 n e (n + 1), h.1 n e (n + 1))
small_layer (Nra-F.If a b c) h i e n =
    omega (arith, count-If (lower a i e n) (lower b i e n) (lower c i e n), h.0 i e n, h.1 i e n, h.2 i e n)

small_rolled : (x : Nra-F Nra) → Held Small x → Small (roll-Nra x)
small_rolled x h i e n =
    let trees : lower (roll-Nra x) ≡ lower_form (map-Nra Nra Lowering lower x) = fold-roll-Nra Lowering lower_form x in
    let sizes : size (roll-Nra x) ≡ node (map-Nra Nra ℕ size x) = fold-roll-Nra ℕ node x in
    rw (trees, sizes) (small_layer x h i e n)

small_tree : (q : Nra) → Small q
small_tree = nra_ind Small small_rolled

pub small_whole : (q : Nra) → calculus.size (lowered q) ≤ 32 * size q
small_whole q =
    let inner = to.Let 1 (to.Const (datum.Rec [])) (lower q 0 1 2) in
    omega (
      arith,
      count-Let 0 (to.Const datum.Unit) inner,
      count-Let 1 (to.Const (datum.Rec [])) (lower q 0 1 2),
      count-Const datum.Unit,
      count-Const (datum.Rec []),
      small_tree q 0 1 2,
      algebra.sized q,
    )

-- ---- free variables

none_or : (a b : Bool) → a ≡ false → b ≡ false → (a || b) ≡ false
none_or a b h k = rw (h, k) refl

other : (v x : ℕ) → v ≢ x → (x == v) ≡ false
other v x h = grind (arith, nat_tests)

differ : (v x : ℕ) → (x == v) ≡ false → v ≢ x
differ v x h = grind (arith, nat_tests)

by_test : (t b : Bool) → (t ≡ false → b ≡ false) → (not t && b) ≡ false
by_test true b h = refl
by_test false b h = h refl

none_under : (v x : ℕ) (b : Bool) → (v ≢ x → b ≡ false) → (not (x == v) && b) ≡ false
none_under v x b h = by_test (x == v) b (λ e. h (differ v x e))

module _ (v : ℕ) where
  -- the variable is not free in the tree
  abbrev NotIn : Nnrc → Type 0
  NotIn t = free_in v t ≡ false

  here : (p q : ℕ → Bool) → p ≡ q → q v ≡ false → p v ≡ false
  here p q e h = ap (λ (r : ℕ → Bool). r v) e ∙ h

  not-Var : (x : ℕ) → v ≢ x → NotIn (to.Var x)
  not-Var x h = here _ _ (of-Var (ℕ → Bool) free x) (other v x h)

  not-Const : (d : Datum) → NotIn (to.Const d)
  not-Const d = here _ _ (of-Const (ℕ → Bool) free d) refl

  not-Unary : (op : Unary) (a : Nnrc) → NotIn a → NotIn (to.Unary op a)
  not-Unary op a h = here _ _ (of-Unary (ℕ → Bool) free op a) h

  not-Binary : (op : Binary) (a b : Nnrc) → NotIn a → NotIn b → NotIn (to.Binary op a b)
  not-Binary op a b h k = here _ _ (of-Binary (ℕ → Bool) free op a b) (none_or _ _ h k)

  not-Let : (x : ℕ) (a b : Nnrc) → NotIn a → (v ≢ x → NotIn b) → NotIn (to.Let x a b)
  not-Let x a b h k = here _ _ (of-Let (ℕ → Bool) free x a b) (none_or _ _ h (none_under v x _ k))

  not-For : (x : ℕ) (a b : Nnrc) → NotIn a → (v ≢ x → NotIn b) → NotIn (to.For x a b)
  not-For x a b h k = here _ _ (of-For (ℕ → Bool) free x a b) (none_or _ _ h (none_under v x _ k))

  not-If : (a b c : Nnrc) → NotIn a → NotIn b → NotIn c → NotIn (to.If a b c)
  not-If a b c h k l = here _ _ (of-If (ℕ → Bool) free a b c) (none_or _ _ h (none_or _ _ k l))

  not-Either : (a : Nnrc) (x : ℕ) (b : Nnrc) (y : ℕ) (c : Nnrc) → NotIn a → (v ≢ x → NotIn b) → (v ≢ y → NotIn c)
      → NotIn (to.Either a x b y c)
  not-Either a x b y c h k l =
      here _ _ (of-Either (ℕ → Bool) free a x b y c)
      (none_or _ _ h (none_or _ _ (none_under v x _ k) (none_under v y _ l)))

  not-beside : (n : ℕ) (t : Nnrc) → v ≢ n → NotIn t → NotIn (beside n t)
  not-beside n t u h =
      not-For (n + 1) t _ h
      (λ k. not-Binary two.Cat (to.Var n) (to.Var (n + 1)) (not-Var n u) (not-Var (n + 1) k))

  not-paired : (n : ℕ) → v ≢ n → v ≢ n + 1 → NotIn (paired n)
  not-paired n u k =
      not-Unary one.Flatten _ (not-For (n + 2) (to.Var n) _ (not-Var n u)
      (λ l. not-beside (n + 2) (to.Var (n + 1)) l (not-Var (n + 1) k)))

  abbrev Bound : Nra → Type 0
  Bound q = (i e n : ℕ) → v ≢ i → v ≢ e → NotIn (lower q i e n)

  bound_layer : (x : Nra-F Nra) → Held Bound x → (i e n : ℕ) → v ≢ i → v ≢ e
      → NotIn (lower_form (map-Nra Nra Lowering lower x) i e n)
  bound_layer (Nra-F.Const d) g i e n h k = not-Const d
  bound_layer Nra-F.Input g i e n h k = not-Var i h
  bound_layer Nra-F.Env g i e n h k = not-Var e k
  bound_layer (Nra-F.Global name) g i e n h k = here _ _ (of-Global (ℕ → Bool) free name) refl
  bound_layer (Nra-F.Unary op a) g i e n h k = not-Unary op (lower a i e n) (g i e n h k)
  bound_layer (Nra-F.Binary op a b) g i e n h k =
      not-Binary op (lower a i e n) (lower b i e n) (g.0 i e n h k) (g.1 i e n h k)
  bound_layer (Nra-F.Comp a b) g i e n h k =
      not-Let n (lower b i e n) (lower a n e (n + 1)) (g.1 i e n h k) (λ u. g.0 n e (n + 1) u k)
  bound_layer (Nra-F.Map a b) g i e n h k =
      not-For n (lower b i e n) (lower a n e (n + 1)) (g.1 i e n h k) (λ u. g.0 n e (n + 1) u k)
  bound_layer (Nra-F.Select a b) g i e n h k =
      not-Unary one.Flatten _ (not-For n (lower b i e n) _ (g.1 i e n h k) (λ u.
      not-If (lower a n e (n + 1)) _ _ (g.0 n e (n + 1) u k) (not-Unary one.Single (to.Var n) (not-Var n u))
      (not-Const (datum.Coll []))))
  bound_layer (Nra-F.Product a b) g i e n h k =
      not-Let n (lower a i e n) _ (g.0 i e n h k) (λ u.
      not-Let (n + 1) (lower b i e (n + 1)) (paired n) (g.1 i e (n + 1) h k) (λ l. not-paired n u l))
  bound_layer (Nra-F.DepJoin a b) g i e n h k =
      not-Unary one.Flatten _ (not-For n (lower b i e n) _ (g.1 i e n h k)
      (λ u. not-beside n (lower a n e (n + 1)) u (g.0 n e (n + 1) u k)))
  bound_layer (Nra-F.Default a b) g i e n h k =
      not-Let n (lower a i e n) _ (g.0 i e n h k) (λ u.
      not-If _ (lower b i e (n + 1)) (to.Var n)
      (not-Binary two.Eq (to.Var n) none (not-Var n u) (not-Const (datum.Coll [])))
      (g.1 i e (n + 1) h k) (not-Var n u))
  bound_layer (Nra-F.EnvComp a b) g i e n h k =
      not-Let n (lower b i e n) (lower a i n (n + 1)) (g.1 i e n h k) (λ u. g.0 i n (n + 1) h u)
  bound_layer (Nra-F.MapEnv a) g i e n h k =
      not-For n (to.Var e) (lower a i n (n + 1)) (not-Var e k) (λ u. g i n (n + 1) h u)
  bound_layer (Nra-F.Either a b) g i e n h k =
      not-Either (to.Var i) n (lower a n e (n + 1)) n (lower b n e (n + 1)) (not-Var i h)
      (λ u. g.0 n e (n + 1) u k) (λ u. g.1 n e (n + 1) u k)
  bound_layer (Nra-F.If a b c) g i e n h k =
      not-If (lower a i e n) (lower b i e n) (lower c i e n) (g.0 i e n h k) (g.1 i e n h k) (g.2 i e n h k)

  bound_rolled : (x : Nra-F Nra) → Held Bound x → Bound (roll-Nra x)
  bound_rolled x g i e n h k =
      let trees : lower (roll-Nra x) ≡ lower_form (map-Nra Nra Lowering lower x) =
      fold-roll-Nra Lowering lower_form x in
      rw trees (bound_layer x g i e n h k)

  bound_tree : (q : Nra) → Bound q
  bound_tree = nra_ind Bound bound_rolled

pub closed_whole : (q : Nra) → IsClosed (lowered q)
closed_whole q v =
    not-Let v 0 (to.Const datum.Unit) _ (not-Const v datum.Unit) (λ h.
    not-Let v 1 (to.Const (datum.Rec [])) (lower q 0 1 2) (not-Const v (datum.Rec []))
    (λ k. bound_tree v q 0 1 2 h k))
