-- The trees for operators keep their values.
use Rattle.std.proofs.Common.{◌≡◌, ℕ, ℤ, Bool, true, false, cond, List, [], ◌∷◌, map, Option, Some, None, refl, sym, ap}
use Rattle.std.proofs.Common.{◌∙◌, subst}
use Rattle.std.specs.Prelude.{not}
use Rattle.std.specs.Ordering.{is_gt}
use Rattle.qc_containers.specs.Name.{is_name}
use Rattle.qc_data.proofs.CanonLaws.{canon-Coll}
use Rattle.qc_data.proofs.KindLaws.{out-Coll}
use Rattle.qc_data.proofs.Outcomes.{bind_assoc, kept_same, kept_then}
use Rattle.qc_data.proofs.SameLaws.{Same-refl}
use Rattle.qc_data.specs.Kinds.{coll_at}
use Rattle.qc_data.specs.Order.{canon, cmp, insert_by, sort_by, Same as Alike}
use Rattle.qc_data.specs.Outcome.{Mode, Outcome, Value, Halts, and_then, IsKept}
use Rattle.qc_data.specs.declared.data.Datum.{Datum}
use Rattle.qc_data.specs.declared.data.Datum.TheOpen.{Datum-F}
use Rattle.qc_data.specs.declared.data.Datum.TheViews.{out-Datum, roll-Datum}
use Rattle.qc_data.specs.declared.data.Datum.TheVariants as datum
use Rattle.qc_nra.specs.declared.tree.Nra.{Nra}
use Rattle.qc_nra.specs.declared.tree.Nra.TheVariants as tree
use Rattle.qc_ops.specs.Sides.{side_at as side_of, by_side as by_side_of}
use Rattle.qc_nra.specs.Meaning.{nra}
use Rattle.qc_ops.proofs.SameTests.{same_is}
use Rattle.qc_ops.specs.declared.op.Unary.{Unary as OnOne}
use Rattle.qc_ops.specs.declared.op.Unary.TheVariants as one
use Rattle.qc_ops.specs.declared.op.Binary.TheVariants as two
use Rattle.qc_ops.specs.Operands.{only_if}
use Rattle.qc_ops.specs.Operators.{unary, binary}
use Rattle.qc_ops.specs.Sameness.{same, equality}
use Rattle.qc_ops.specs.Truths.{negation}
use Rattle.qc_types.specs.Schemas.{WorldOf}
use Rattle.qc_types.proofs.Inductions.{roll-out}
use Rattle.qc_oql_tree.specs.declared.pairing.Pairing.{Pairing}
use Rattle.qc_oql_tree.specs.declared.pairing.Pairing.TheVariants as pairing
use Rattle.qc_oql_tree.specs.declared.tree.Binary.{Binary}
use Rattle.qc_oql_tree.specs.declared.tree.Branding.{Branding}
use Rattle.qc_oql_tree.specs.declared.tree.Division.{Division}
use Rattle.qc_oql_tree.specs.declared.tree.Unary.{Unary}
use Rattle.qc_oql_tree.specs.Bindings.{Meaning}
use Rattle.qc_oql_tree.specs.OperatorMeanings.{after, one_value, of_two, divided, branded, branding, division}
use Rattle.qc_oql_tree.specs.OperatorMeanings.{has_member, is_divisor, is_some_list}
use Rattle.qc_ops.specs.Sides.{side_at, by_side}
use Rattle.qc_oql_tree.specs.inner.Pairings.{on_one, at_one, pairing_of, by_pairing}
use Rattle.qc_oql_tree.proofs.Pairings.{one_is, two_is}
use Rattle.qc_oql_nra.specs.OqlForms.{Translation, has_member_tree, one_tree, two_tree}
use Rattle.qc_oql_nra.proofs.Environments.{Same}
use Rattle.qc_oql_nra.proofs.NraForms.{nra-Const, nra-Input, nra-Unary, nra-Binary, nra-Comp, nra-Either}

-- the same tree in another form
pub kept_to : {A : Type 0} (o p q : Outcome A) → q ≡ p → IsKept o p → IsKept o q
kept_to o p q e h = subst (IsKept o) (sym e) h

pub kept_from : {A : Type 0} (o p q : Outcome A) → o ≡ p → IsKept p q → IsKept o q
kept_from o p q e h = subst (λ o. IsKept o q) (sym e) h

-- ---- whether there are members

some_more : (x : Datum) (ys : List Datum) → insert_by cmp x ys ≡ [] → ⊥
some_more x [] e = cc
some_more x (y ∷ ys) e = some_of (is_gt (cmp x y)) e
  where
    some_of : (b : Bool) → cond b (y ∷ insert_by cmp x ys) (x ∷ y ∷ ys) ≡ [] → ⊥
    some_of true e = cc
    some_of false e = cc

coll_is : (xs ys : List Datum) → datum.Coll xs ≡ datum.Coll ys → xs ≡ ys
coll_is xs ys e =
    let layers : Datum-F.Coll xs ≡ Datum-F.Coll ys = sym (out-Coll xs) ∙ ap out-Datum e ∙ out-Coll ys in cc

not_empty : (x : Datum) (xs : List Datum) → Alike (datum.Coll (x ∷ xs)) (datum.Coll []) → ⊥
not_empty x xs e =
    some_more (canon x) (sort_by cmp (map canon xs))
    (coll_is (sort_by cmp (map canon (x ∷ xs))) [] (sym (canon-Coll (x ∷ xs)) ∙ e ∙ canon-Coll []))

test_false : (b : Bool) → (b ≡ true → ⊥) → b ≡ false
test_false true h = absurd (h refl)
test_false false h = refl

same_none : (xs : List Datum) → same (datum.Coll xs) (datum.Coll []) ≡ not (is_some_list xs)
same_none [] = (same_is (datum.Coll []) (datum.Coll [])).1 (Same-refl (datum.Coll []))
same_none (x ∷ xs) = test_false (same (datum.Coll (x ∷ xs)) (datum.Coll []))
    (λ t. not_empty x xs ((same_is (datum.Coll (x ∷ xs)) (datum.Coll [])).0 t))

twice : (b : Bool) → not (not b) ≡ b
twice true = refl
twice false = refl

pub negated : (b : Bool) → negation (datum.Bool b) ≡ Value (datum.Bool (not b))
negated b = rw (datum.outs-Bool b) refl

member_at : (v : Datum) (x : Datum-F Datum) → out-Datum v ≡ x
    → IsKept (and_then (coll_at x) (λ xs. Value (datum.Bool (is_some_list xs))))
    (and_then (equality v (datum.Coll [])) negation)
member_at v (Datum-F.Coll xs) e =
    let is : v ≡ datum.Coll xs = sym (roll-out v) ∙ ap roll-Datum (e ∙ sym (out-Coll xs)) ∙ roll-out (datum.Coll xs) in
    ap (λ d. negation (datum.Bool (same d (datum.Coll [])))) is ∙ negated (same (datum.Coll xs) (datum.Coll []))
    ∙ ap (λ b. Value (datum.Bool b)) (ap not (same_none xs) ∙ twice (is_some_list xs))
member_at v Datum-F.Unit e = tt
member_at v (Datum-F.Bool b) e = tt
member_at v (Datum-F.Int n) e = tt
member_at v (Datum-F.Text s) e = tt
member_at v (Datum-F.Rec fs) e = tt
member_at v (Datum-F.Left d) e = tt
member_at v (Datum-F.Right d) e = tt
member_at v (Datum-F.Brand n d) e = tt

-- ---- by the sides of a value

sides_at : (f g h k : Datum → Outcome Datum) → ((u : Datum) → IsKept (f u) (h u)) → ((u : Datum) → IsKept (g u) (k u))
    → (v : Datum) → IsKept (by_side f g v) (by_side_of h k v)
sides_at f g h k p q v = at (out-Datum v)
  where
    at : (x : Datum-F Datum) → IsKept (side_at f g x) (side_of h k x)
    at (Datum-F.Left u) = p u
    at (Datum-F.Right u) = q u
    at Datum-F.Unit = tt
    at (Datum-F.Bool b) = tt
    at (Datum-F.Int n) = tt
    at (Datum-F.Text s) = tt
    at (Datum-F.Coll xs) = tt
    at (Datum-F.Rec fs) = tt
    at (Datum-F.Brand n d) = tt

module _ (m : Mode) (w : WorldOf) where
  -- what two trees give by the side of a value
  pub same_sides : (f g : Datum → Outcome Datum) (a b : Nra) (d : Datum)
      → ((u : Datum) → IsKept (f u) (nra m w a u d)) → ((u : Datum) → IsKept (g u) (nra m w b u d))
      → (o : Outcome Datum) (c : Nra) (i : Datum) → IsKept o (nra m w c i d)
      → IsKept (and_then o (by_side f g)) (nra m w (tree.Comp (tree.Either a b) c) i d)
  same_sides f g a b d p q o c i h =
      kept_to _ _ _ (nra-Comp m w (tree.Either a b) c i d)
      (kept_then o (nra m w c i d) (by_side f g) (λ v. nra m w (tree.Either a b) v d) h (λ v.
      kept_to _ _ _ (nra-Either m w a b v d)
      (sides_at f g (λ u. nra m w a u d) (λ u. nra m w b u d) p q v)))

  -- ---- one operand

  pub same_after : (f : Datum → Outcome Datum) (op : OnOne) (a : Meaning) (t : Translation)
      → ((v : Datum) → IsKept (f v) (unary m w.classes op v)) → Same m w a t
      → Same m w (after f a) (λ s. tree.Unary op (t s))
  same_after f op a t k h ns s d e i =
      kept_to _ _ _ (nra-Unary m w op (t ns) i d)
      (kept_then (a s) (nra m w (t ns) i d) f (unary m w.classes op) (h ns s d e i) k)

  same_member : (a : Meaning) (t : Translation) → Same m w a t
      → Same m w (after has_member a) (λ s. has_member_tree (t s))
  same_member a t h ns s d e i =
      let equal = tree.Binary two.Eq (t ns) (tree.Const (datum.Coll [])) in
      kept_to _ _ _ (nra-Unary m w one.Not equal i d ∙ ap (λ o. and_then o negation)
      (nra-Binary m w two.Eq (t ns) (tree.Const (datum.Coll [])) i d)
      ∙ bind_assoc (nra m w (t ns) i d)
      (λ v. and_then (nra m w (tree.Const (datum.Coll [])) i d) (λ y. equality v y)) negation)
      (kept_then (a s) (nra m w (t ns) i d) has_member
      (λ v. and_then (and_then (nra m w (tree.Const (datum.Coll [])) i d) (λ y. equality v y)) negation)
      (h ns s d e i) (λ v.
      kept_to _ _ _ (ap (λ o. and_then (and_then o (λ y. equality v y)) negation)
      (nra-Const m w (datum.Coll []) i d)) (member_at v (out-Datum v) refl)))

  one_at : (o : Option OnOne) (a : Meaning) (t : Translation) → Same m w a t
      → Same m w (after (at_one m w.classes o) a) (λ s. one_tree o (t s))
  one_at None a t h = same_member a t h
  one_at (Some op) a t h = same_after (unary m w.classes op) op a t (λ v. kept_same (unary m w.classes op v)) h

  pub same_one : (op : Unary) (a : Meaning) (t : Translation) → Same m w a t
      → Same m w (after (one_value m w.classes op) a) (λ s. one_tree (on_one op) (t s))
  same_one op a t h ns s d e i =
      let is : (x : Datum) → one_value m w.classes op x ≡ at_one m w.classes (on_one op) x = one_is m w.classes op in
      subst (λ f. IsKept (and_then (a s) f) (nra m w (one_tree (on_one op) (t ns)) i d)) (λ j x. sym (is x) j)
      (one_at (on_one op) a t h ns s d e i)

  -- ---- literals and classes

  kept_if : {A : Type 0} (b : Bool) (o : Outcome A) → IsKept (only_if b o) o
  kept_if true o = kept_same o
  kept_if false o = tt

  pub same_divided : (q : Division) (k : ℤ) (a : Meaning) (t : Translation) → Same m w a t
      → Same m w (after (divided m w.classes q k) a) (λ s. tree.Unary (division q k) (t s))
  same_divided q k a t h =
      same_after (divided m w.classes q k) (division q k) a t
      (λ v. kept_if (is_divisor k) (unary m w.classes (division q k) v)) h

  class_at : (b : Bool) (class : List ℕ) (f : List ℕ → Outcome Datum)
      → IsKept (and_then (only_if b (Value class)) f) (f class)
  class_at true class f = kept_same (f class)
  class_at false class f = tt

  pub same_branded : (b : Branding) (class : List ℕ) (a : Meaning) (t : Translation) → Same m w a t
      → Same m w (after (branded m w.classes b class) a) (λ s. tree.Unary (branding b class) (t s))
  same_branded b class a t h =
      same_after (branded m w.classes b class) (branding b class) a t
      (λ v. class_at (is_name class) class (λ name. unary m w.classes (branding b name) v)) h

  -- ---- two operands

  kept_both : (o p q r : Outcome Datum) (f : Datum → Datum → Outcome Datum) → IsKept o q → IsKept p r
      → IsKept (and_then o (λ x. and_then p (λ y. f x y))) (and_then q (λ x. and_then r (λ y. f x y)))
  kept_both o p q r f h k =
      kept_then o q (λ x. and_then p (λ y. f x y)) (λ x. and_then r (λ y. f x y)) h (λ x.
      kept_then p r (λ y. f x y) (λ y. f x y) k (λ y. kept_same (f x y)))

  kept_exchanged : (o p q r : Outcome Datum) (f : Datum → Datum → Outcome Datum) → IsKept o q → IsKept p r
      → IsKept (and_then o (λ x. and_then p (λ y. f y x))) (and_then r (λ y. and_then q (λ x. f y x)))
  kept_exchanged (Value a) (Value b) q r f h k = rw (h, k) (kept_same (f b a))
  kept_exchanged (Value a) (Halts why) q r f h k = tt
  kept_exchanged (Halts why) p q r f h k = tt

  then_more : {A : Type 0} (o p : Outcome Datum) (f : Datum → Datum → Outcome Datum) (g : Datum → Outcome A)
      → and_then (and_then o (λ x. and_then p (λ y. f x y))) g
      ≡ and_then o (λ x. and_then p (λ y. and_then (f x y) g))
  then_more (Value a) (Value b) f g = refl
  then_more (Value a) (Halts why) f g = refl
  then_more (Halts why) p f g = refl

  two_at : (o : Option Pairing) (a b : Meaning) (t u : Translation) → Same m w a t → Same m w b u
      → Same m w (by_pairing m o a b) (λ s. two_tree o (t s) (u s))
  two_at None a b t u h k ns s d e i =
      same_sides (λ content. Value content) (λ content. b s) tree.Input (u ns) d (λ v. nra-Input m w v d)
      (λ v. k ns s d e v) (a s) (t ns) i (h ns s d e i)
  two_at (Some (pairing.Plain op)) a b t u h k ns s d e i =
      kept_to _ _ _ (nra-Binary m w op (t ns) (u ns) i d)
      (kept_both (a s) (b s) (nra m w (t ns) i d) (nra m w (u ns) i d) (binary m op) (h ns s d e i) (k ns s d e i))
  two_at (Some (pairing.Exchanged op)) a b t u h k ns s d e i =
      kept_to _ _ _ (nra-Binary m w op (u ns) (t ns) i d)
      (kept_exchanged (a s) (b s) (nra m w (t ns) i d) (nra m w (u ns) i d) (binary m op) (h ns s d e i)
      (k ns s d e i))
  two_at (Some pairing.Unequal) a b t u h k ns s d e i =
      kept_to _ _ _ (nra-Unary m w one.Not (tree.Binary two.Eq (t ns) (u ns)) i d
      ∙ ap (λ o. and_then o negation) (nra-Binary m w two.Eq (t ns) (u ns) i d)
      ∙ then_more (nra m w (t ns) i d) (nra m w (u ns) i d) equality negation)
      (kept_both (a s) (b s) (nra m w (t ns) i d) (nra m w (u ns) i d) (λ x y. and_then (equality x y) negation)
      (h ns s d e i) (k ns s d e i))

  pub same_two : (op : Binary) (a b : Meaning) (t u : Translation) → Same m w a t → Same m w b u
      → Same m w (of_two m op a b) (λ s. two_tree (pairing_of op) (t s) (u s))
  same_two op a b t u h k ns s d e i =
      kept_from _ _ _ (two_is m op a b s) (two_at (pairing_of op) a b t u h k ns s d e i)
