-- What was put piece by piece was put, and a front of a piece is a front of the whole.
use Rattle.std.proofs.Common.{◌≡◌, rules, subst, append-nil, Bool, true, false, zero, suc, ℕ, ◌+◌, ◌≤◌, ◌<◌, List, []}
use Rattle.std.proofs.Common.{◌∷◌, ◌++◌, take, length, Option, Some, None, arith, refl, sym, ap, ◌∙◌}
use Rattle.std.proofs.Common.{get_or, map}
use Rattle.std.proofs.lemmas.List.{map_more, take_more as take_one_more}
use Rattle.std.proofs.Common.{nat_eq}
use Rattle.std.proofs.lemmas.Bool.Decides.{nat_tests}
use Rattle.qc_js.specs.Layout.{pieces}
use Rattle.std.specs.Prelude.{codes}
use Rattle.qc_js.specs.declared.tree.Expr.{Expr}
use Rattle.qc_js.specs.declared.tree.Stmt.{Stmt, the_lemmas}
use Rattle.qc_js.specs.declared.tree.Stmt.TheVariants.{If, For}
use Rattle.qc_js.specs.inner.Text.{stmt_text, expr_text, if_text, for_text, if_head, block_text, parts, behind_comma}
use Rattle.qc_js.specs.inner.Text.{comma_unless}
use Rattle.std.specs.Io.KnownBytes.{append_known}
use Rattle.qc_io.specs.Device.{AppendsFront, Rose}
use Rattle.qc_js.specs.inner.Adding.{Adds, HasAdded}

pub assoc : (a b c : List ℕ) → (a ++ b) ++ c ≡ a ++ (b ++ c)
assoc [] b c = refl
assoc (x ∷ a) b c = ap (λ l. x ∷ l) (assoc a b c)

pub append_twice : (o : Option (List ℕ)) (a b : List ℕ) → append_known (append_known o a) b ≡ append_known o (a ++ b)
append_twice None a b = refl
append_twice (Some xs) a b = ap (λ (l : List ℕ). Some l) (assoc xs a b)

pub put_next : (o m n : Option (List ℕ)) (a b : List ℕ) → m ≡ append_known o a → n ≡ append_known m b
    → n ≡ append_known o (a ++ b)
put_next o m n a b p q = q ∙ ap (λ k. append_known k b) p ∙ append_twice o a b

take_more : (a b : List ℕ) (n : ℕ) → take (length a + n) (a ++ b) ≡ a ++ take n b
take_more [] b n = ap (λ k. take k b) (omega arith)
take_more (x ∷ a) b n =
    let e : length (x ∷ a) + n ≡ suc (length a + n) = omega arith in rw e (ap (λ l. x ∷ l) (take_more a b n))

least : ℕ → List ℕ → ℕ
least n [] = zero
least zero (x ∷ xs) = zero
least (suc n) (x ∷ xs) = suc (least n xs)

take_least : (n : ℕ) (a b : List ℕ) → take (least n a) (a ++ b) ≡ take n a
unfolding least
take_least zero [] b = refl
take_least (suc n) [] b = refl
take_least zero (x ∷ a) b = refl
take_least (suc n) (x ∷ a) b = ap (λ l. x ∷ l) (take_least n a b)

-- a front of the first part
pub front_sooner : (o n : Option (List ℕ)) (a b : List ℕ) → AppendsFront o n a → AppendsFront o n (a ++ b)
front_sooner o n a b f = (least f.0 a, f.1 ∙ ap (append_known o) (sym (take_least f.0 a b)))

-- the first part, and a front of what follows
pub front_later : (o m n : Option (List ℕ)) (a b : List ℕ) → m ≡ append_known o a → AppendsFront m n b
    → AppendsFront o n (a ++ b)
front_later o m n a b p f = (
  length a + f.0,
  f.1 ∙ ap (λ k. append_known k (take f.0 b)) p ∙ append_twice o a (take f.0 b)
      ∙ ap (append_known o) (sym (take_more a b f.0)),
)

pub rose_later : (x y z : ℕ) → x ≤ y → Rose y z → Rose x z
rose_later x y z h r = omega (arith, h, r)

then_adds : (a b c : Bool) (o m n : Option (List ℕ)) (f g h : ℕ) (x y : List ℕ) → HasAdded a b o m f g x
    → HasAdded b c m n g h y → HasAdded a c o n f h (x ++ y)
then_adds true true true o m n f g h x y p q = (put_next o m n x y p.0 q.0, omega (arith, p.1, q.1))
then_adds true true false o m n f g h x y p q =
    (front_later o m n x y p.0 q.0, rose_later f g h p.1 q.1, omega (arith, p.1, q.2))
then_adds true false true o m n f g h x y p q = absurd q
then_adds true false false o m n f g h x y p q = (front_sooner o n x y (p.0.0, q.0 ∙ p.0.1), rw (q.1) p.1, rw (q.1) p.2)
then_adds false true c o m n f g h x y p q = absurd p
then_adds false false true o m n f g h x y p q = absurd q
then_adds false false false o m n f g h x y p q = (q.0 ∙ p.0, q.1 ∙ p.1)

pub adds_then : {a b c : Bool} {o m n : Option (List ℕ)} {f g h : ℕ} {x y : List ℕ} → Adds a b o m f g x
    → Adds b c m n g h y → Adds a c o n f h (x ++ y)
adds_then {a = a} {b = b} {c = c} {o = o} {m = m} {n = n} {f = f} {g = g} {h = h} {x = x} {y = y} p q =
    record { added = then_adds a b c o m n f g h x y p.added q.added }

nothing : (o : Option (List ℕ)) → o ≡ append_known o []
nothing None = refl
nothing (Some xs) = ap (λ (l : List ℕ). Some l) (sym (append-nil xs))

pub adds_none : (a : Bool) (o : Option (List ℕ)) (f : ℕ) → Adds a a o o f f []
adds_none true o f = record { added = (nothing o, omega arith) }
adds_none false o f = record { added = (refl, refl) }

-- the same with the text written otherwise
pub adds_as : (a b : Bool) (o m : Option (List ℕ)) (f g : ℕ) (x y : List ℕ) → x ≡ y → Adds a b o m f g x
    → Adds a b o m f g y
adds_as a b o m f g x y e p = subst (Adds a b o m f g) e p

pieces_push : {A : Type 0} (h : A → List ℕ) (xs : List A) (y : A) → pieces h (xs ++ y ∷ []) ≡ pieces h xs ++ h y
pieces_push h [] y = append-nil (h y)
pieces_push h (x ∷ xs) y = ap (λ l. h x ++ l) (pieces_push h xs y) ∙ sym (assoc (h x) (pieces h xs) (h y))

-- one more turn of a loop over bytes
pub adds_turn : (h : ℕ → List ℕ) (xs : List ℕ) (i y : ℕ) {a b c : Bool} {o m n : Option (List ℕ)} {f g k : ℕ}
    → i < length xs → y ≡ get_or xs i 0
    → Adds a b o m f g (pieces h (take i xs)) → Adds b c m n g k (h y) → Adds a c o n f k (pieces h (take (i + 1) xs))
adds_turn h xs i y {a = a} {c = c} {o = o} {n = n} {f = f} {k = k} l e p q =
    adds_as a c o n f k _ _ (ap (λ z. pieces h (take i xs) ++ h z) e ∙ sym (pieces_push h (take i xs) (get_or xs i 0))
    ∙ ap (pieces h) (sym (take_one_more xs i 0 l))) (adds_then p q)

-- one more turn of a loop over trees
pub adds_item : {X : Type 0} (h : List ℕ → List ℕ) (w : X → List ℕ) (xs : List X) (i : ℕ) (y : X) {a b c : Bool}
    {o m n : Option (List ℕ)} {f g k : ℕ} → i < length xs → y ≡ get_or xs i y
    → Adds a b o m f g (pieces h (map w (take i xs))) → Adds b c m n g k (h (w y))
    → Adds a c o n f k (pieces h (map w (take (i + 1) xs)))
adds_item h w xs i y {a = a} {c = c} {o = o} {n = n} {f = f} {k = k} l e p q =
    adds_as a c o n f k _ _ (ap (λ z. pieces h (map w (take i xs)) ++ h (w z)) e
    ∙ sym (pieces_push h (map w (take i xs)) (w (get_or xs i y))) ∙ ap (pieces h) (sym (map_more w xs i y l)))
    (adds_then p q)

parts_turn : {X : Type 0} (w : X → List ℕ) (xs : List X) (i : ℕ) (y : X) → i < length xs
    → parts (map w (take (i + 1) xs)) ≡ parts (map w (take i xs)) ++ (comma_unless (nat_eq i 0) ++ w (get_or xs i y))
parts_turn w [] i y l = absurd (omega arith)
parts_turn w (x ∷ xs) zero y l = append-nil (w x)
parts_turn w (x ∷ xs) (suc i) y l =
    let e : suc i + 1 ≡ suc (i + 1) = omega arith in let m : i < length xs = omega arith in
    let z : nat_eq (suc i) 0 ≡ false = grind (arith, nat_tests) in
    rw (e, z) (ap (λ (z : List (List ℕ)). w x ++ pieces behind_comma z) (map_more w xs i y m)
    ∙ ap (λ z. w x ++ z) (pieces_push behind_comma (map w (take i xs)) (w (get_or xs i y)))
    ∙ sym (assoc (w x) (pieces behind_comma (map w (take i xs))) (behind_comma (w (get_or xs i y)))))

-- one more turn of the loop over items
pub adds_part : {X : Type 0} (w : X → List ℕ) (xs : List X) (i : ℕ) (y : X) {a b c d : Bool} {o m n q : Option (List ℕ)}
    {f g h k : ℕ} → i < length xs → y ≡ get_or xs i y
    → Adds a b o m f g (parts (map w (take i xs))) → Adds b c m n g h (comma_unless (nat_eq i 0))
    → Adds c d n q h k (w y) → Adds a d o q f k (parts (map w (take (i + 1) xs)))
adds_part w xs i y {a = a} {d = d} {o = o} {q = q} {f = f} {k = k} l e p r t =
    adds_as a d o q f k _ _ (ap (λ z. parts (map w (take i xs)) ++ (comma_unless (nat_eq i 0) ++ w z)) e
    ∙ sym (parts_turn w xs i y l)) (adds_then p (adds_then r t))

stmt_text-If : (e : Expr) (ss us : List Stmt)
    → stmt_text (If e ss us) ≡ if_text (expr_text e) (block_text (map stmt_text ss)) (block_text (map stmt_text us))
stmt_text-If e ss us = search (rules, the_lemmas)

pub if_whole : (s : Stmt) (e : Expr) (ss us : List Stmt) {a b c d k : Bool} {o m n q r : Option (List ℕ)}
    {f g h i j : ℕ} → s ≡ If e ss us
    → Adds a b o m f g (if_head (expr_text e)) → Adds b c m n g h (block_text (map stmt_text ss))
    → Adds c d n q h i (codes " else ") → Adds d k q r i j (block_text (map stmt_text us))
    → Adds a k o r f j (stmt_text s)
if_whole s e ss us {a = a} {k = k} {o = o} {r = r} {f = f} {j = j} is p q t u =
    adds_as a k o r f j _ _ (sym (ap stmt_text is ∙ stmt_text-If e ss us)) (adds_then p (adds_then q (adds_then t u)))

stmt_text-For : (v : ℕ) (e : Expr) (ss : List Stmt)
    → stmt_text (For v e ss) ≡ for_text v (expr_text e) (block_text (map stmt_text ss))
stmt_text-For v e ss = search (rules, the_lemmas)

pub for_whole : (s : Stmt) (v : ℕ) (e : Expr) (ss : List Stmt) {a b : Bool} {o m : Option (List ℕ)} {f g : ℕ}
    → s ≡ For v e ss
    → Adds a b o m f g (for_text v (expr_text e) (block_text (map stmt_text ss))) → Adds a b o m f g (stmt_text s)
for_whole s v e ss {a = a} {b = b} {o = o} {m = m} {f = f} {g = g} is p =
    adds_as a b o m f g _ _ (sym (ap stmt_text is ∙ stmt_text-For v e ss)) p

pub ruleset adding = adds_none
