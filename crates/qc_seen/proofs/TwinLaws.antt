-- Twins are in the order of what they stand for, so they are the same where it is.
use Rattle.std.proofs.Common.{◌≡◌, ℕ, suc, pos, Bool, true, false, List, [], ◌∷◌, map, Ordering, Less, Equal}
use Rattle.std.proofs.Common.{Greater, refl, sym, ap, subst, ◌∙◌, arith, true≢false}
use Rattle.std.specs.Prelude.{codes, ◌==◌, nat_lt}
use Rattle.std.proofs.lemmas.Bool.Decides.{nat_tests}
use Rattle.std.specs.Cmp.{tied_itself}
use Rattle.std.proofs.lemmas.Cmp.{int_cmp_total}
use Rattle.std.specs.Cmp.Lexicographic.{slice_cmp}
use Rattle.std.specs.List.{AllByRecursion}
use Rattle.std.specs.Ordering.{ordering_then, int_cmp, nat_cmp, is_eq}
use Rattle.qc_containers.specs.Rising.{on_value, text_cmp}
use Rattle.qc_data.specs.Order.{cmp, canon, sort_by, insert_by, rank, pair_cmp}
use Rattle.qc_data.specs.declared.data.Datum.{Datum}
use Rattle.qc_data.specs.declared.data.Datum.TheOpen.{Datum-F}
use Rattle.qc_data.specs.declared.data.Datum.TheViews.{out-Datum, roll-Datum}
use Rattle.qc_data.specs.declared.data.Datum.TheVariants as D
use Rattle.qc_data.proofs.CanonLaws.{canon-Unit, canon-Bool, canon-Int, canon-Text, canon-Coll, canon-Rec, canon-Left}
use Rattle.qc_data.proofs.CanonLaws.{canon-Right, canon-Brand}
use Rattle.qc_data.proofs.Induction.{every_datum}
use Rattle.qc_data.proofs.Layers.{out-roll, roll-out}
use Rattle.qc_data.proofs.OrderLaws.{cmp-Int, cmp-Text, cmp-Coll, cmp-Rec, cmp-Left, cmp-Right}
use Rattle.qc_data.proofs.OrderLaws.{cmp-Brand, cmp-kinds}
use Rattle.qc_bags.specs.Copies.{same}
use Rattle.qc_ops.proofs.RowOrder.{sort-map}
use Rattle.qc_seen.specs.Twins.{mark, member_twin, numbered, twin}
use Rattle.qc_seen.proofs.TwinForms.{twin-Unit, twin-Bool, twin-Int, twin-Text, twin-Coll, twin-Rec, twin-Left}
use Rattle.qc_seen.proofs.TwinForms.{twin-Right}
use Rattle.qc_seen.proofs.TwinForms.{twin-Brand}

abbrev Pairs : Type 0
Pairs = List (List ℕ × Datum)

-- ---- the order of twins

then_equal : (o : Ordering) → ordering_then o Equal ≡ o
then_equal Less = refl
then_equal Equal = refl
then_equal Greater = refl

-- members at one place
member_order : (i : ℕ) (m n : List ℕ) (d e : Datum)
    → cmp (member_twin i m d) (member_twin i n e) ≡ ordering_then (text_cmp m n) (cmp d e)
member_order i m n d e =
    cmp-Rec ((codes "a", D.Int (pos i)) ∷ (codes "b", D.Text m) ∷ (codes "c", d) ∷ [])
    ((codes "a", D.Int (pos i)) ∷ (codes "b", D.Text n) ∷ (codes "c", e) ∷ [])
    ∙ rw (cmp-Int (pos i) (pos i), tied_itself int_cmp_total (pos i), cmp-Text m n) (ap (ordering_then (text_cmp m n))
    (then_equal (cmp d e)))

abbrev Kept : Datum → Type 0
Kept a = (b : Datum) → cmp (twin a) (twin b) ≡ cmp a b

numbered_order : (i : ℕ) (ps qs : Pairs) → AllByRecursion (λ p. Kept p.1) ps
    → slice_cmp cmp (numbered i (map (on_value twin) ps)) (numbered i (map (on_value twin) qs))
    ≡ slice_cmp pair_cmp ps qs
numbered_order i [] [] h = refl
numbered_order i [] (q ∷ qs) h = refl
numbered_order i (p ∷ ps) [] h = refl
numbered_order i (p ∷ ps) (q ∷ qs) h =
    λ k. ordering_then ((member_order i p.0 q.0 (twin p.1) (twin q.1)
    ∙ ap (ordering_then (text_cmp p.0 q.0)) (h.0 q.1)) k)
    (numbered_order (suc i) ps qs h.1 k)

list_order : (xs ys : List Datum) → AllByRecursion Kept xs
    → slice_cmp cmp (map twin xs) (map twin ys) ≡ slice_cmp cmp xs ys
list_order [] [] h = refl
list_order [] (y ∷ ys) h = refl
list_order (x ∷ xs) [] h = refl
list_order (x ∷ xs) (y ∷ ys) h = λ k. ordering_then (h.0 y k) (list_order xs ys h.1 k)

record_order : (ps qs : Pairs) → AllByRecursion (λ p. Kept p.1) ps
    → cmp (twin (D.Rec ps)) (twin (D.Rec qs)) ≡ cmp (D.Rec ps) (D.Rec qs)
record_order ps qs h =
    (λ k. cmp (twin-Rec ps k) (twin-Rec qs k))
    ∙ cmp-Rec ((codes "a", D.Coll (numbered 0 (map (on_value twin) ps))) ∷ [])
    ((codes "a", D.Coll (numbered 0 (map (on_value twin) qs))) ∷ [])
    ∙ then_equal (cmp (D.Coll (numbered 0 (map (on_value twin) ps))) (D.Coll (numbered 0 (map (on_value twin) qs))))
    ∙ cmp-Coll (numbered 0 (map (on_value twin) ps)) (numbered 0 (map (on_value twin) qs)) ∙ numbered_order 0 ps qs h
    ∙ sym (cmp-Rec ps qs)

bag_order : (xs ys : List Datum) → AllByRecursion Kept xs
    → cmp (twin (D.Coll xs)) (twin (D.Coll ys)) ≡ cmp (D.Coll xs) (D.Coll ys)
bag_order xs ys h =
    (λ k. cmp (twin-Coll xs k) (twin-Coll ys k)) ∙ cmp-Coll (map twin xs) (map twin ys) ∙ list_order xs ys h
    ∙ sym (cmp-Coll xs ys)

class_order : (m n : List ℕ) (d e : Datum) → cmp (twin d) (twin e) ≡ cmp d e
    → cmp (twin (D.Brand m d)) (twin (D.Brand n e)) ≡ cmp (D.Brand m d) (D.Brand n e)
class_order m n d e h =
    (λ k. cmp (twin-Brand m d k) (twin-Brand n e k))
    ∙ cmp-Brand (codes "a") (codes "a") (D.Rec ((codes "a", D.Text m) ∷ (codes "b", twin d) ∷ []))
    (D.Rec ((codes "a", D.Text n) ∷ (codes "b", twin e) ∷ []))
    ∙ cmp-Rec ((codes "a", D.Text m) ∷ (codes "b", twin d) ∷ []) ((codes "a", D.Text n) ∷ (codes "b", twin e) ∷ [])
    ∙ rw (cmp-Text m n) (ap (ordering_then (text_cmp m n)) (then_equal (cmp (twin d) (twin e)) ∙ h))
    ∙ sym (cmp-Brand m n d e)

-- what holds of the parts of a layer
abbrev Parts : Datum-F Datum → Type 0
Parts (Datum-F.Coll xs) = AllByRecursion Kept xs
Parts (Datum-F.Rec ps) = AllByRecursion (λ p. Kept p.1) ps
Parts (Datum-F.Left d) = Kept d
Parts (Datum-F.Right d) = Kept d
Parts (Datum-F.Brand n d) = Kept d
Parts x = Unit {0}

abbrev At : Datum → Datum → Type 0
At a b = cmp (twin a) (twin b) ≡ cmp a b

one_kind : (x y : Datum-F Datum) → Parts x → (rank x == rank y) ≡ true → At (roll-Datum x) (roll-Datum y)
one_kind Datum-F.Unit Datum-F.Unit h e = rw D.rolls-Unit (λ k. cmp (twin-Unit k) (twin-Unit k))
one_kind (Datum-F.Bool b) (Datum-F.Bool c) h e =
    rw (D.rolls-Bool b, D.rolls-Bool c) (λ k. cmp (twin-Bool b k) (twin-Bool c k))
one_kind (Datum-F.Int m) (Datum-F.Int n) h e =
    rw (D.rolls-Int m, D.rolls-Int n) (λ k. cmp (twin-Int m k) (twin-Int n k))
one_kind (Datum-F.Text s) (Datum-F.Text t) h e =
    rw (D.rolls-Text s, D.rolls-Text t) (λ k. cmp (twin-Text s k) (twin-Text t k))
one_kind (Datum-F.Coll xs) (Datum-F.Coll ys) h e = rw (D.rolls-Coll xs, D.rolls-Coll ys) (bag_order xs ys h)
one_kind (Datum-F.Rec ps) (Datum-F.Rec qs) h e = rw (D.rolls-Rec ps, D.rolls-Rec qs) (record_order ps qs h)
one_kind (Datum-F.Left a) (Datum-F.Left b) h e =
    rw (D.rolls-Left a, D.rolls-Left b) ((λ k. cmp (twin-Left a k) (twin-Left b k)) ∙ cmp-Left (twin a) (twin b) ∙ h b
    ∙ sym (cmp-Left a b))
one_kind (Datum-F.Right a) (Datum-F.Right b) h e =
    rw (D.rolls-Right a, D.rolls-Right b) ((λ k. cmp (twin-Right a k) (twin-Right b k)) ∙ cmp-Right (twin a) (twin b)
    ∙ h b ∙ sym (cmp-Right a b))
one_kind (Datum-F.Brand m a) (Datum-F.Brand n b) h e =
    rw (D.rolls-Brand m a, D.rolls-Brand n b) (class_order m n a b (h b))
one_kind x y h e = absurd (true≢false (sym e))

-- twins are of the same kind
rank_at : (x : Datum-F Datum) → rank (out-Datum (twin (roll-Datum x))) ≡ rank x
rank_at Datum-F.Unit = rw (D.rolls-Unit, twin-Unit, D.outs-Unit) refl
rank_at (Datum-F.Bool b) = rw (D.rolls-Bool b, twin-Bool b, D.outs-Bool b) refl
rank_at (Datum-F.Int n) = rw (D.rolls-Int n, twin-Int n, D.outs-Int n) refl
rank_at (Datum-F.Text s) = rw (D.rolls-Text s, twin-Text s, D.outs-Text s) refl
rank_at (Datum-F.Coll xs) = rw (D.rolls-Coll xs, twin-Coll xs, D.outs-Coll (map twin xs)) refl
rank_at (Datum-F.Rec ps) =
    rw (D.rolls-Rec ps, twin-Rec ps, D.outs-Rec ((codes "a", D.Coll (numbered 0 (map (on_value twin) ps))) ∷ [])) refl
rank_at (Datum-F.Left d) = rw (D.rolls-Left d, twin-Left d, D.outs-Left (twin d)) refl
rank_at (Datum-F.Right d) = rw (D.rolls-Right d, twin-Right d, D.outs-Right (twin d)) refl
rank_at (Datum-F.Brand n d) =
    rw (
      D.rolls-Brand n d,
      twin-Brand n d,
      D.outs-Brand (codes "a") (D.Rec ((codes "a", D.Text n) ∷ (codes "b", twin d) ∷ [])),
    )
    refl

nat_itself : (n : ℕ) → (n == n) ≡ true
nat_itself n = grind (arith, nat_tests)

apart : (m n : ℕ) → (m == n) ≡ false → m ≡ n → ⊥
apart m n h e = true≢false (sym (nat_itself n) ∙ ap (λ k. k == n) (sym e) ∙ h)

two_kinds : (x y : Datum-F Datum) → (rank x == rank y) ≡ false → At (roll-Datum x) (roll-Datum y)
two_kinds x y e =
    let mine : rank (out-Datum (roll-Datum x)) ≡ rank x = ap rank (out-roll x) in
    let theirs : rank (out-Datum (roll-Datum y)) ≡ rank y = ap rank (out-roll y) in
    cmp-kinds (twin (roll-Datum x)) (twin (roll-Datum y))
    (λ k. apart (rank x) (rank y) e (sym (rank_at x) ∙ k ∙ rank_at y))
    ∙ (λ k. nat_cmp ((rank_at x ∙ sym mine) k) ((rank_at y ∙ sym theirs) k))
    ∙ sym (cmp-kinds (roll-Datum x) (roll-Datum y) (λ k. apart (rank x) (rank y) e (sym mine ∙ k ∙ theirs)))

by_rank : (b : Bool) (x y : Datum-F Datum) → Parts x → (rank x == rank y) ≡ b → At (roll-Datum x) (roll-Datum y)
by_rank true x y h e = one_kind x y h e
by_rank false x y h e = two_kinds x y e

step : (x : Datum-F Datum) → Parts x → Kept (roll-Datum x)
step x h b =
    subst (At (roll-Datum x)) (roll-out b) (by_rank (rank x == rank (out-Datum b)) x (out-Datum b) h refl)

pub cmp-twin : (a b : Datum) → cmp (twin a) (twin b) ≡ cmp a b
cmp-twin = every_datum Kept record {
  unit = subst Kept D.rolls-Unit (step Datum-F.Unit tt);
  bool = λ b. subst Kept (D.rolls-Bool b) (step (Datum-F.Bool b) tt);
  int = λ n. subst Kept (D.rolls-Int n) (step (Datum-F.Int n) tt);
  text = λ s. subst Kept (D.rolls-Text s) (step (Datum-F.Text s) tt);
  coll = λ xs h. subst Kept (D.rolls-Coll xs) (step (Datum-F.Coll xs) h);
  rec = λ ps h. subst Kept (D.rolls-Rec ps) (step (Datum-F.Rec ps) h);
  left = λ d h. subst Kept (D.rolls-Left d) (step (Datum-F.Left d) h);
  right = λ d h. subst Kept (D.rolls-Right d) (step (Datum-F.Right d) h);
  brand = λ n d h. subst Kept (D.rolls-Brand n d) (step (Datum-F.Brand n d) h);
}

-- ---- canons of twins

abbrev Settled : Datum → Type 0
Settled d = canon (twin d) ≡ twin (canon d)

-- members at later places are greater
int_later : (i : ℕ) → int_cmp (pos i) (pos (suc i)) ≡ Less
int_later i = let e : nat_lt i (suc i) ≡ true = grind (arith, nat_tests) in rw e refl

later : (i : ℕ) (m n : List ℕ) (d e : Datum) → cmp (member_twin i m d) (member_twin (suc i) n e) ≡ Less
later i m n d e =
    cmp-Rec ((codes "a", D.Int (pos i)) ∷ (codes "b", D.Text m) ∷ (codes "c", d) ∷ [])
    ((codes "a", D.Int (pos (suc i))) ∷ (codes "b", D.Text n) ∷ (codes "c", e) ∷ [])
    ∙ rw (cmp-Int (pos i) (pos (suc i)), int_later i) refl

first_stays : (i : ℕ) (n : List ℕ) (d : Datum) (ps : Pairs)
    → insert_by cmp (member_twin i n d) (numbered (suc i) ps) ≡ member_twin i n d ∷ numbered (suc i) ps
first_stays i n d [] = refl
first_stays i n d (p ∷ ps) = rw (later i n p.0 d p.1) refl

numbered_sorted : (i : ℕ) (ps : Pairs) → sort_by cmp (numbered i ps) ≡ numbered i ps
numbered_sorted i [] = refl
numbered_sorted i (p ∷ ps) =
    ap (insert_by cmp (member_twin i p.0 p.1)) (numbered_sorted (suc i) ps) ∙ first_stays i p.0 p.1 ps

member_canon : (i : ℕ) (n : List ℕ) (d : Datum) → canon (member_twin i n d) ≡ member_twin i n (canon d)
member_canon i n d =
    canon-Rec ((codes "a", D.Int (pos i)) ∷ (codes "b", D.Text n) ∷ (codes "c", d) ∷ [])
    ∙ (λ k. D.Rec ((codes "a", canon-Int (pos i) k) ∷ (codes "b", canon-Text n k) ∷ (codes "c", canon d) ∷ []))

numbered_canons : (i : ℕ) (ps : Pairs) → AllByRecursion (λ p. Settled p.1) ps
    → map canon (numbered i (map (on_value twin) ps)) ≡ numbered i (map (on_value twin) (map (on_value canon) ps))
numbered_canons i [] h = refl
numbered_canons i (p ∷ ps) h =
    λ k. (member_canon i p.0 (twin p.1) ∙ ap (member_twin i p.0) h.0) k ∷ numbered_canons (suc i) ps h.1 k

bag_canons : (xs : List Datum) → AllByRecursion Settled xs → map canon (map twin xs) ≡ map twin (map canon xs)
bag_canons [] h = refl
bag_canons (x ∷ xs) h = λ k. h.0 k ∷ bag_canons xs h.1 k

sorted_twins : (xs : List Datum) → sort_by cmp (map twin xs) ≡ map twin (sort_by cmp xs)
sorted_twins xs =
    sym (sort-map cmp twin xs)
    ∙ ap (λ (R : Datum → Datum → Ordering). map twin (sort_by R xs)) (λ k x y. cmp-twin x y k)

bag_settled : (xs : List Datum) → AllByRecursion Settled xs → Settled (D.Coll xs)
bag_settled xs h =
    ap canon (twin-Coll xs) ∙ canon-Coll (map twin xs)
    ∙ ap D.Coll (ap (sort_by cmp) (bag_canons xs h) ∙ sorted_twins (map canon xs))
    ∙ sym (twin-Coll (sort_by cmp (map canon xs))) ∙ ap twin (sym (canon-Coll xs))

record_settled : (ps : Pairs) → AllByRecursion (λ p. Settled p.1) ps → Settled (D.Rec ps)
record_settled ps h =
    let qs : Pairs = map (on_value canon) ps in
    ap canon (twin-Rec ps) ∙ canon-Rec ((codes "a", D.Coll (numbered 0 (map (on_value twin) ps))) ∷ [])
    ∙ ap (λ d. D.Rec ((codes "a", d) ∷ [])) (canon-Coll (numbered 0 (map (on_value twin) ps))
    ∙ ap D.Coll (ap (sort_by cmp) (numbered_canons 0 ps h) ∙ numbered_sorted 0 (map (on_value twin) qs)))
    ∙ sym (twin-Rec qs) ∙ ap twin (sym (canon-Rec ps))

class_settled : (n : List ℕ) (d : Datum) → Settled d → Settled (D.Brand n d)
class_settled n d h =
    ap canon (twin-Brand n d)
    ∙ canon-Brand (codes "a") (D.Rec ((codes "a", D.Text n) ∷ (codes "b", twin d) ∷ []))
    ∙ ap (D.Brand (codes "a")) (canon-Rec ((codes "a", D.Text n) ∷ (codes "b", twin d) ∷ [])
    ∙ (λ k. D.Rec ((codes "a", canon-Text n k) ∷ (codes "b", h k) ∷ [])))
    ∙ sym (twin-Brand n (canon d)) ∙ ap twin (sym (canon-Brand n d))

pub canon-twin : (d : Datum) → canon (twin d) ≡ twin (canon d)
canon-twin = every_datum Settled record {
  unit = ap canon twin-Unit ∙ canon-Unit ∙ sym twin-Unit ∙ ap twin (sym canon-Unit);
  bool = λ b. ap canon (twin-Bool b) ∙ canon-Bool b ∙ sym (twin-Bool b) ∙ ap twin (sym (canon-Bool b));
  int = λ n. ap canon (twin-Int n) ∙ canon-Int n ∙ sym (twin-Int n) ∙ ap twin (sym (canon-Int n));
  text = λ s. ap canon (twin-Text s) ∙ canon-Text s ∙ sym (twin-Text s) ∙ ap twin (sym (canon-Text s));
  coll = bag_settled;
  rec = record_settled;
  left = λ d h. ap canon (twin-Left d) ∙ canon-Left (twin d) ∙ ap D.Left h ∙ sym (twin-Left (canon d))
      ∙ ap twin (sym (canon-Left d));
  right = λ d h. ap canon (twin-Right d) ∙ canon-Right (twin d) ∙ ap D.Right h ∙ sym (twin-Right (canon d))
      ∙ ap twin (sym (canon-Right d));
  brand = class_settled;
}

-- ---- sameness

pub same-twin : (a b : Datum) → same (twin a) (twin b) ≡ same a b
same-twin a b =
    ap is_eq ((λ k. cmp (canon-twin a k) (canon-twin b k)) ∙ cmp-twin (canon a) (canon b))

pub ruleset twins_same = (same-twin)

pub same-mark : (b : Bool) (x y : Datum) → same (mark b x) (mark b y) ≡ same x y
same-mark true x y = refl
same-mark false x y = same-twin x y
