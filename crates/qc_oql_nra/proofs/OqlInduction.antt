-- Induction over the trees of queries: what holds of the parts.
use Rattle.std.proofs.Common.{◌≡◌, Bool, List, [], ◌∷◌, map, Option, Some, None, subst}
use Rattle.qc_types.proofs.Inductions.{AllOf}
use Rattle.qc_oql_tree.specs.declared.tree.Oql.{Oql}
use Rattle.qc_oql_tree.specs.declared.tree.Oql.TheOpen.{Oql-F, Filter-F, Key-F, Named-F, Order-F, Select-F}
use Rattle.qc_oql_tree.specs.declared.tree.Oql.TheViews.{roll-Oql, roll-Filter, roll-Key, roll-Named, roll-Order}
use Rattle.qc_oql_tree.specs.declared.tree.Oql.TheViews.{roll-Select}
use Rattle.qc_oql_tree.specs.declared.tree.Oql.TheFolds.{ind-Oql, ind-Named, map-Oql, map-Filter, map-Key, map-Named}
use Rattle.qc_oql_tree.specs.declared.tree.Oql.TheFolds.{map-Order, map-Select}
use Rattle.qc_oql_tree.specs.declared.tree.Filter.{Filter}
use Rattle.qc_oql_tree.specs.declared.tree.Key.{Key}
use Rattle.qc_oql_tree.specs.declared.tree.Named.{Named}
use Rattle.qc_oql_tree.specs.declared.tree.Order.{Order}
use Rattle.qc_oql_tree.specs.declared.tree.Select.{Select}

-- a tree with what holds of it
abbrev Held : {X : Type 0} → (X → Type 0) → Type 0
Held {X} P = (x : X) × P x

-- what holds of the part, if it is there
abbrev pub OfSome : {X : Type 0} → (X → Type 0) → Option X → Type 0
OfSome P None = Unit {0}
OfSome P (Some x) = P x

all_held : {X : Type 0} (P : X → Type 0) (ps : List (Held P)) → AllOf P (map (λ p. p.0) ps)
all_held P [] = tt
all_held P (p ∷ ps) = (p.1, all_held P ps)

module _ (O : Oql → Type 0) (F : Filter → Type 0) (K : Key → Type 0) (N : Named → Type 0) (R : Order → Type 0)
    (S : Select → Type 0) where
  -- the claims of the parts of an expression
  abbrev pub PartsHold : Oql-F Oql Filter Key Named Order Select → Type 0
  PartsHold (Oql-F.Name at name) = Unit {0}
  PartsHold (Oql-F.Whole at n) = Unit {0}
  PartsHold (Oql-F.Text at text) = Unit {0}
  PartsHold (Oql-F.Constant at k) = Unit {0}
  PartsHold (Oql-F.Struct at fs) = AllOf N fs
  PartsHold (Oql-F.Bag at xs) = AllOf O xs
  PartsHold (Oql-F.Unary at op a) = O a
  PartsHold (Oql-F.Binary at op a b) = O a × O b
  PartsHold (Oql-F.Divide at d a k) = O a
  PartsHold (Oql-F.Like at a pattern) = O a
  PartsHold (Oql-F.Dot at a label) = O a
  PartsHold (Oql-F.Brand at b class a) = O a
  PartsHold (Oql-F.Match at a l r) = O a × N l × N r
  PartsHold (Oql-F.If at t a b) = O t × O a × O b
  PartsHold (Oql-F.Quantified at q a t) = N a × O t
  PartsHold (Oql-F.Select at x) = S x

  abbrev Parts : Type 0
  Parts = Oql-F (Held O) (Held F) (Held K) (Held N) (Held R) (Held S)

  abbrev whole : Parts → Oql-F Oql Filter Key Named Order Select
  whole p =
      map-Oql (Held O) (Held F) (Held K) (Held N) (Held R) (Held S) Oql Filter Key Named Order Select
      (λ e. e.0) (λ e. e.0) (λ e. e.0) (λ e. e.0) (λ e. e.0) (λ e. e.0) p

  parts_held : (p : Parts) → PartsHold (whole p)
  parts_held (Oql-F.Name at name) = tt
  parts_held (Oql-F.Whole at n) = tt
  parts_held (Oql-F.Text at text) = tt
  parts_held (Oql-F.Constant at k) = tt
  parts_held (Oql-F.Struct at fs) = all_held N fs
  parts_held (Oql-F.Bag at xs) = all_held O xs
  parts_held (Oql-F.Unary at op a) = a.1
  parts_held (Oql-F.Binary at op a b) = (a.1, b.1)
  parts_held (Oql-F.Divide at d a k) = a.1
  parts_held (Oql-F.Like at a pattern) = a.1
  parts_held (Oql-F.Dot at a label) = a.1
  parts_held (Oql-F.Brand at b class a) = a.1
  parts_held (Oql-F.Match at a l r) = (a.1, l.1, r.1)
  parts_held (Oql-F.If at t a b) = (t.1, a.1, b.1)
  parts_held (Oql-F.Quantified at q a t) = (a.1, t.1)
  parts_held (Oql-F.Select at x) = x.1

  module _ (oql : (x : Oql-F Oql Filter Key Named Order Select) → PartsHold x → O (roll-Oql x))
      (filter : (x : Filter-F Oql Filter Key Named Order Select) → O x.test → F (roll-Filter x))
      (key : (x : Key-F Oql Filter Key Named Order Select) → O x.of → K (roll-Key x))
      (named : (x : Named-F Oql Filter Key Named Order Select) → O x.of → N (roll-Named x))
      (order : (x : Order-F Oql Filter Key Named Order Select) → AllOf K x.keys → R (roll-Order x))
      (select : (x : Select-F Oql Filter Key Named Order Select) → O x.value → AllOf N x.sources → OfSome F x.filter
      → OfSome R x.order → S (roll-Select x)) where
    step_oql : (x : Oql-F Oql Filter Key Named Order Select) (p : Parts) → whole p ≡ x → O (roll-Oql x)
    step_oql x p same = subst (λ z. O (roll-Oql z)) same (oql (whole p) (parts_held p))

    step_filter : (x : Filter-F Oql Filter Key Named Order Select)
        (p : Filter-F (Held O) (Held F) (Held K) (Held N) (Held R) (Held S))
        → map-Filter (Held O) (Held F) (Held K) (Held N) (Held R) (Held S) Oql Filter Key Named Order Select
        (λ e. e.0) (λ e. e.0) (λ e. e.0) (λ e. e.0) (λ e. e.0) (λ e. e.0) p ≡ x → F (roll-Filter x)
    step_filter x p same = subst (λ z. F (roll-Filter z)) same (filter _ p.test.1)

    step_key : (x : Key-F Oql Filter Key Named Order Select)
        (p : Key-F (Held O) (Held F) (Held K) (Held N) (Held R) (Held S))
        → map-Key (Held O) (Held F) (Held K) (Held N) (Held R) (Held S) Oql Filter Key Named Order Select
        (λ e. e.0) (λ e. e.0) (λ e. e.0) (λ e. e.0) (λ e. e.0) (λ e. e.0) p ≡ x → K (roll-Key x)
    step_key x p same = subst (λ z. K (roll-Key z)) same (key _ p.of.1)

    step_named : (x : Named-F Oql Filter Key Named Order Select)
        (p : Named-F (Held O) (Held F) (Held K) (Held N) (Held R) (Held S))
        → map-Named (Held O) (Held F) (Held K) (Held N) (Held R) (Held S) Oql Filter Key Named Order Select
        (λ e. e.0) (λ e. e.0) (λ e. e.0) (λ e. e.0) (λ e. e.0) (λ e. e.0) p ≡ x → N (roll-Named x)
    step_named x p same = subst (λ z. N (roll-Named z)) same (named _ p.of.1)

    step_order : (x : Order-F Oql Filter Key Named Order Select)
        (p : Order-F (Held O) (Held F) (Held K) (Held N) (Held R) (Held S))
        → map-Order (Held O) (Held F) (Held K) (Held N) (Held R) (Held S) Oql Filter Key Named Order Select
        (λ e. e.0) (λ e. e.0) (λ e. e.0) (λ e. e.0) (λ e. e.0) (λ e. e.0) p ≡ x → R (roll-Order x)
    step_order x p same = subst (λ z. R (roll-Order z)) same (order _ (all_held K p.keys))

    abbrev select_whole : Select-F (Held O) (Held F) (Held K) (Held N) (Held R) (Held S)
        → Select-F Oql Filter Key Named Order Select
    select_whole p =
        map-Select (Held O) (Held F) (Held K) (Held N) (Held R) (Held S) Oql Filter Key Named Order Select
        (λ e. e.0) (λ e. e.0) (λ e. e.0) (λ e. e.0) (λ e. e.0) (λ e. e.0) p

    select_held : (distinct : Bool) (v : Held O) (bs : List (Held N)) (f : Option (Held F)) (o : Option (Held R))
        → S (roll-Select (select_whole (record
        { distinct = distinct; value = v; sources = bs; filter = f; order = o })))
    select_held distinct v bs None None = select _ v.1 (all_held N bs) tt tt
    select_held distinct v bs None (Some o) = select _ v.1 (all_held N bs) tt o.1
    select_held distinct v bs (Some f) None = select _ v.1 (all_held N bs) f.1 tt
    select_held distinct v bs (Some f) (Some o) = select _ v.1 (all_held N bs) f.1 o.1

    step_select : (x : Select-F Oql Filter Key Named Order Select)
        (p : Select-F (Held O) (Held F) (Held K) (Held N) (Held R) (Held S)) → select_whole p ≡ x → S (roll-Select x)
    step_select x p same =
        subst (λ z. S (roll-Select z)) same (select_held p.distinct p.value p.sources p.filter p.order)

    -- each expression, and each name with an expression
    pub all_oql : (x : Oql) → O x
    all_oql =
        ind-Oql O F K N R S step_oql step_filter step_key step_named step_order step_select

    pub all_named : (x : Named) → N x
    all_named =
        ind-Named O F K N R S step_oql step_filter step_key step_named step_order step_select
