-- Each form agrees between two modes where its parts do.
use Rattle.std.proofs.Common.{◌≡◌, ℕ, ℤ, Bool, true, false, List, [], ◌∷◌, ◌++◌, map, refl, subst}
use Rattle.std.specs.Prelude.{Option, Some, None, cond}
use Rattle.qc_data.specs.Kinds.{as_coll}
use Rattle.qc_data.specs.Outcome.{any_size, within, Outcome, Value, Halts, Stuck, and_then, gather, each, alone, Agrees}
use Rattle.qc_data.specs.declared.data.Datum.{Datum}
use Rattle.qc_data.proofs.Outcomes.{agrees_same, agrees_then, agrees_after, agrees_gather}
use Rattle.qc_ops.specs.Operands.{as_bool, only_if}
use Rattle.qc_ops.specs.Operators.{unary}
use Rattle.qc_ops.proofs.OperatorLaws.{agrees_unary, agrees_binary, agrees_side}
use Rattle.qc_types.specs.Classes.{Defs}
use Rattle.qc_oql_tree.specs.declared.tree.Branding.{Branding}
use Rattle.qc_oql_tree.specs.declared.tree.Direction.{Direction}
use Rattle.qc_oql_tree.specs.declared.tree.Division.{Division}
use Rattle.qc_oql_tree.specs.declared.tree.Quantifier.{Quantifier}
use Rattle.qc_oql_tree.specs.declared.tree.Unary.{Unary}
use Rattle.qc_oql_tree.specs.declared.tree.Binary.{Binary}
use Rattle.qc_oql_tree.specs.Bindings.{Bindings, Meaning}
use Rattle.qc_oql_tree.specs.FormMeanings.{NamedMeaning, bound, matched, truth, chosen, decided, tested, quantified}
use Rattle.qc_oql_tree.specs.FormMeanings.{collected, field_of, structured}
use Rattle.qc_oql_tree.specs.OperatorMeanings.{after, one_value, of_two, both, or_else, is_divisor}
use Rattle.qc_oql_tree.specs.OperatorMeanings.{divided, division, name_of, branded, branding}
use Rattle.qc_oql_tree.specs.inner.Pairings.{on_one, at_one, pairing_of, by_pairing, paired}
use Rattle.qc_oql_tree.specs.Meaning.{defined}
use Rattle.qc_oql_tree.specs.SelectMeaning.{KeyMeaning, KeyedRow, source_items, rows_with, extended, rows_from}
use Rattle.qc_oql_tree.specs.SelectMeaning.{kept_row, filtered, key_values, keyed, are_sortable, sorted, ordered_by}
use Rattle.qc_oql_tree.specs.SelectMeaning.{ordered, selected}
use Rattle.qc_oql_tree.specs.declared.pairing.Pairing.{Pairing}
use Rattle.qc_oql_tree.specs.declared.pairing.Pairing.TheVariants as pairing
use Rattle.qc_oql_tree.proofs.Pairings.{one_is, two_is}
use Rattle.qc_ops.specs.declared.op.Unary.{Unary as OnOne}

-- ---- what agrees

-- the outcomes at any bindings
abbrev pub AgreesM : Meaning → Meaning → Type 0
AgreesM f g = (s : Bindings) → Agrees (f s) (g s)

-- the same under one name
abbrev pub AgreesN : NamedMeaning → NamedMeaning → Type 0
AgreesN a b = (a.0 ≡ b.0) × AgreesM a.1 b.1

-- the same in one direction
abbrev pub AgreesK : KeyMeaning → KeyMeaning → Type 0
AgreesK a b = AgreesM a.0 b.0 × (a.1 ≡ b.1)

-- two lists, place by place
abbrev pub Zip : {A : Type 0} → (A → A → Type 0) → List A → List A → Type 0
Zip R [] [] = Unit {0}
Zip R [] (y ∷ ys) = ⊥
Zip R (x ∷ xs) [] = ⊥
Zip R (x ∷ xs) (y ∷ ys) = R x y × Zip R xs ys

-- both or none
abbrev pub Both : {A : Type 0} → (A → A → Type 0) → Option A → Option A → Type 0
Both R None None = Unit {0}
Both R None (Some y) = ⊥
Both R (Some x) None = ⊥
Both R (Some x) (Some y) = R x y

-- ---- lists

-- one list with two functions
pub agrees_all : {A B : Type 0} (f g : A → Outcome B) (xs : List A) → ((x : A) → Agrees (f x) (g x))
    → Agrees (each f xs) (each g xs)
agrees_all f g xs h =
    agrees_gather (λ x. alone (f x)) (λ x. alone (g x)) xs (λ x. agrees_then (f x) (g x) _ _ (h x) (λ v. refl))

-- two lists with one function
agrees_zip : {A B : Type 0} (R : A → A → Type 0) (f : A → Outcome B) → ((x y : A) → R x y → Agrees (f x) (f y))
    → (xs ys : List A) → Zip R xs ys → Agrees (each f xs) (each f ys)
agrees_zip R f h [] [] z = refl
agrees_zip R f h [] (y ∷ ys) z = absurd z
agrees_zip R f h (x ∷ xs) [] z = absurd z
agrees_zip R f h (x ∷ xs) (y ∷ ys) z =
    agrees_then (alone (f x)) (alone (f y)) _ _ (agrees_then (f x) (f y) _ _ (h x y z.0) (λ v. refl))
    (λ us. agrees_then (each f xs) (each f ys) _ _ (agrees_zip R f h xs ys z.1) (λ vs. refl))

-- ---- operators

pub agrees_on : (f g : Datum → Outcome Datum) (a b : Meaning) → ((x : Datum) → Agrees (f x) (g x)) → AgreesM a b
    → AgreesM (after f a) (after g b)
agrees_on f g a b h k s = agrees_then (a s) (b s) f g (k s) h

agrees_both : (f g : Datum → Datum → Outcome Datum) (a b c d : Meaning) → ((x y : Datum) → Agrees (f x y) (g x y))
    → AgreesM a c → AgreesM b d → AgreesM (both f a b) (both g c d)
agrees_both f g a b c d h p q s =
    agrees_then (a s) (c s) _ _ (p s) (λ x. agrees_then (b s) (d s) (f x) (g x) (q s) (h x))

agrees_or_else : (a b c d : Meaning) → AgreesM a c → AgreesM b d → AgreesM (or_else a b) (or_else c d)
agrees_or_else a b c d p q s = agrees_then (a s) (c s) _ _ (p s) (agrees_side _ _ _ _ (λ x. refl) (λ x. q s))

agrees_only : {A : Type 0} (t : Bool) (o p : Outcome A) → Agrees o p → Agrees (only_if t o) (only_if t p)
agrees_only true o p h = h
agrees_only {A = A} false o p h = agrees_same {A = A} (Halts Stuck)

module _ (lo hi : ℤ) where
  agrees_one : (c : Defs) (op : Option OnOne) (x : Datum)
      → Agrees (at_one any_size c op x) (at_one (within lo hi) c op x)
  agrees_one c None x = agrees_same (at_one any_size c None x)
  agrees_one c (Some op) x = agrees_unary lo hi c op x

  pub agrees_value : (c : Defs) (op : Unary) (x : Datum)
      → Agrees (one_value any_size c op x) (one_value (within lo hi) c op x)
  agrees_value c op x = rw (one_is any_size c op x, one_is (within lo hi) c op x) (agrees_one c (on_one op) x)

  agrees_paired : (p : Pairing) (x y : Datum) → Agrees (paired any_size p x y) (paired (within lo hi) p x y)
  agrees_paired (pairing.Plain op) x y = agrees_binary lo hi op x y
  agrees_paired (pairing.Exchanged op) x y = agrees_binary lo hi op y x
  agrees_paired pairing.Unequal x y = agrees_same (paired any_size pairing.Unequal x y)

  agrees_pairing : (p : Option Pairing) (a b c d : Meaning) → AgreesM a c → AgreesM b d
      → AgreesM (by_pairing any_size p a b) (by_pairing (within lo hi) p c d)
  agrees_pairing None a b c d h k = agrees_or_else a b c d h k
  agrees_pairing (Some p) a b c d h k =
      agrees_both (paired any_size p) (paired (within lo hi) p) a b c d (agrees_paired p) h k

  pub agrees_two : (op : Binary) (a b c d : Meaning) → AgreesM a c → AgreesM b d
      → AgreesM (of_two any_size op a b) (of_two (within lo hi) op c d)
  agrees_two op a b c d h k s =
      rw (two_is any_size op a b s, two_is (within lo hi) op c d s) (agrees_pairing (pairing_of op) a b c d h k s)

  pub agrees_divided : (c : Defs) (d : Division) (k : ℤ) (x : Datum)
      → Agrees (divided any_size c d k x) (divided (within lo hi) c d k x)
  agrees_divided c d k x =
      agrees_only (is_divisor k) (unary any_size c (division d k) x) (unary (within lo hi) c (division d k) x)
      (agrees_unary lo hi c (division d k) x)

  pub agrees_branded : (c : Defs) (b : Branding) (class : List ℕ) (x : Datum)
      → Agrees (branded any_size c b class x) (branded (within lo hi) c b class x)
  agrees_branded c b class x = agrees_after (name_of class) _ _ (λ name. agrees_unary lo hi c (branding b name) x)

-- ---- forms that bind or choose

agrees_bound : (a b : NamedMeaning) (s : Bindings) (x : Datum) → AgreesN a b → Agrees (bound a s x) (bound b s x)
agrees_bound a b s x h =
    let P : List ℕ → Type 0 = λ n. Agrees (a.1 ((a.0, x) ∷ s)) (b.1 ((n, x) ∷ s)) in subst P h.0 (h.1 ((a.0, x) ∷ s))

pub agrees_matched : (a c : Meaning) (l r k q : NamedMeaning) → AgreesM a c → AgreesN l k → AgreesN r q
    → AgreesM (matched a l r) (matched c k q)
agrees_matched a c l r k q h i j s =
    agrees_then (a s) (c s) _ _ (h s) (agrees_side (bound l s) (bound r s) (bound k s) (bound q s)
    (λ x. agrees_bound l k s x i) (λ x. agrees_bound r q s x j))

agrees_truth : (a b : Meaning) (s : Bindings) → AgreesM a b → Agrees (truth a s) (truth b s)
unfolding truth
agrees_truth a b s h = agrees_then (a s) (b s) as_bool as_bool (h s) (λ v. agrees_same (as_bool v))

agrees_choice : (t : Bool) (a b c d : Outcome Datum) → Agrees a c → Agrees b d → Agrees (cond t a b) (cond t c d)
agrees_choice true a b c d h k = h
agrees_choice false a b c d h k = k

pub agrees_chosen : (t a b u c d : Meaning) → AgreesM t u → AgreesM a c → AgreesM b d
    → AgreesM (chosen t a b) (chosen u c d)
agrees_chosen t a b u c d h i j s =
    agrees_then (truth t s) (truth u s) _ _ (agrees_truth t u s h)
    (λ holds. agrees_choice holds (a s) (b s) (c s) (d s) (i s) (j s))

agrees_tested : (q : Quantifier) (n : List ℕ) (t u : Meaning) (s : Bindings) → AgreesM t u → (v : Datum)
    → Agrees (tested q n t s v) (tested q n u s v)
agrees_tested q n t u s k v =
    agrees_after (as_coll v) _ _ (λ xs. agrees_then (decided q n t s xs) (decided q n u s xs) _ _
    (agrees_then (each (λ x. truth t ((n, x) ∷ s)) xs) (each (λ x. truth u ((n, x) ∷ s)) xs) _ _
    (agrees_all (λ x. truth t ((n, x) ∷ s)) (λ x. truth u ((n, x) ∷ s)) xs (λ x. agrees_truth t u ((n, x) ∷ s) k))
    (λ ts. refl)) (λ answer. refl))

pub agrees_quantified : (q : Quantifier) (a b : NamedMeaning) (t u : Meaning) → AgreesN a b → AgreesM t u
    → AgreesM (quantified q a t) (quantified q b u)
agrees_quantified q a b t u h k s =
    let P : List ℕ → Type 0 = λ n. Agrees (quantified q a t s) (and_then (b.1 s) (tested q n u s)) in
    subst P h.0 (agrees_then (a.1 s) (b.1 s) _ _ (h.1 s) (agrees_tested q a.0 t u s k))

pub agrees_collected : (xs ys : List Meaning) → Zip AgreesM xs ys → AgreesM (collected xs) (collected ys)
agrees_collected xs ys z s =
    agrees_then (each (λ x. x s) xs) (each (λ x. x s) ys) _ _ (agrees_zip AgreesM (λ x. x s) (λ x y h. h s) xs ys z)
    (λ ds. refl)

agrees_field : (s : Bindings) (a b : NamedMeaning) → AgreesN a b → Agrees (field_of s a) (field_of s b)
agrees_field s a b h =
    let P : List ℕ → Type 0 =
    λ n. Agrees (field_of s a) (and_then (name_of n) (λ label. and_then (b.1 s) (λ x. Value (label, x)))) in
    subst P h.0 (agrees_after (name_of a.0) _ _ (λ label. agrees_then (a.1 s) (b.1 s) _ _ (h.1 s) (λ x. refl)))

pub agrees_structured : (xs ys : List NamedMeaning) → Zip AgreesN xs ys → AgreesM (structured xs) (structured ys)
agrees_structured xs ys z s =
    agrees_then (each (field_of s) xs) (each (field_of s) ys) _ _
    (agrees_zip AgreesN (field_of s) (agrees_field s) xs ys z) (λ fs. refl)

-- ---- select

agrees_items : (a b : NamedMeaning) (s row : Bindings) → AgreesN a b
    → Agrees (source_items a s row) (source_items b s row)
unfolding source_items
agrees_items a b s row h =
    agrees_then (a.1 (row ++ s)) (b.1 (row ++ s)) as_coll as_coll (h.1 (row ++ s)) (λ v. agrees_same (as_coll v))

agrees_extended : (a b : NamedMeaning) (s row : Bindings) → AgreesN a b → Agrees (extended a s row) (extended b s row)
agrees_extended a b s row h =
    let P : List ℕ → Type 0 =
    λ n. Agrees (extended a s row) (and_then (source_items b s row) (λ xs. Value (rows_with n row xs))) in
    subst P h.0 (agrees_then (source_items a s row) (source_items b s row) _ _ (agrees_items a b s row h) (λ xs. refl))

agrees_rows : (xs ys : List NamedMeaning) (s : Bindings) (rows : List Bindings) → Zip AgreesN xs ys
    → Agrees (rows_from xs s rows) (rows_from ys s rows)
agrees_rows [] [] s rows z = refl
agrees_rows [] (y ∷ ys) s rows z = absurd z
agrees_rows (x ∷ xs) [] s rows z = absurd z
agrees_rows (x ∷ xs) (y ∷ ys) s rows z =
    agrees_then (gather (extended x s) rows) (gather (extended y s) rows) _ _
    (agrees_gather (extended x s) (extended y s) rows (λ row. agrees_extended x y s row z.0))
    (λ more. agrees_rows xs ys s more z.1)

agrees_kept : (a b : Meaning) (s row : Bindings) → AgreesM a b → Agrees (kept_row a s row) (kept_row b s row)
unfolding kept_row
agrees_kept a b s row h =
    agrees_then (truth a (row ++ s)) (truth b (row ++ s)) _ _ (agrees_truth a b (row ++ s) h) (λ holds. refl)

agrees_filtered : (f g : Option Meaning) (s : Bindings) (rows : List Bindings) → Both AgreesM f g
    → Agrees (filtered f s rows) (filtered g s rows)
agrees_filtered None None s rows h = refl
agrees_filtered None (Some b) s rows h = absurd h
agrees_filtered (Some a) None s rows h = absurd h
agrees_filtered (Some a) (Some b) s rows h =
    agrees_gather (kept_row a s) (kept_row b s) rows (λ row. agrees_kept a b s row h)

same_directions : (xs ys : List KeyMeaning) → Zip AgreesK xs ys → map (λ key. key.1) xs ≡ map (λ key. key.1) ys
same_directions [] [] z = refl
same_directions [] (y ∷ ys) z = absurd z
same_directions (x ∷ xs) [] z = absurd z
same_directions (x ∷ xs) (y ∷ ys) z = let e = same_directions xs ys z.1 in rw (z.0.1, e) refl

agrees_keys : (xs ys : List KeyMeaning) (s : Bindings) → Zip AgreesK xs ys → Agrees (key_values xs s) (key_values ys s)
unfolding key_values
agrees_keys xs ys s z = agrees_zip AgreesK (λ key. key.0 s) (λ x y h. h.0 s) xs ys z

agrees_keyed : (xs ys : List KeyMeaning) (s row : Bindings) → Zip AgreesK xs ys
    → Agrees (keyed xs s row) (keyed ys s row)
unfolding keyed
agrees_keyed xs ys s row z =
    agrees_then (key_values xs (row ++ s)) (key_values ys (row ++ s)) _ _ (agrees_keys xs ys (row ++ s) z) (λ ds. refl)

-- the rows in order, if each key's values are of one kind
abbrev finish : List Direction → List KeyedRow → Outcome (List Bindings)
finish directions rows =
    only_if (are_sortable directions (map (λ row. row.0) rows)) (Value (map (λ row. row.1) (sorted directions rows)))

agrees_ordered_by : (xs ys : List KeyMeaning) (s : Bindings) (rows : List Bindings) → Zip AgreesK xs ys
    → Agrees (ordered_by xs s rows) (ordered_by ys s rows)
unfolding ordered_by
agrees_ordered_by xs ys s rows z =
    let P : List Direction → Type 0 =
    λ ds. Agrees (ordered_by xs s rows) (and_then (each (keyed ys s) rows) (finish ds)) in
    subst P (same_directions xs ys z) (agrees_then (each (keyed xs s) rows) (each (keyed ys s) rows) _ _
    (agrees_all (keyed xs s) (keyed ys s) rows (λ row. agrees_keyed xs ys s row z))
    (λ ks. agrees_same (finish (map (λ key. key.1) xs) ks)))

agrees_ordered : (f g : Option (List KeyMeaning)) (s : Bindings) (rows : List Bindings) → Both (Zip AgreesK) f g
    → Agrees (ordered f s rows) (ordered g s rows)
agrees_ordered None None s rows h = refl
agrees_ordered None (Some b) s rows h = absurd h
agrees_ordered (Some a) None s rows h = absurd h
agrees_ordered (Some a) (Some b) s rows h = agrees_ordered_by a b s rows h

pub agrees_selected : (d : Bool) (a b : Meaning) (xs ys : List NamedMeaning) (f g : Option Meaning)
    (o p : Option (List KeyMeaning)) → AgreesM a b → Zip AgreesN xs ys → Both AgreesM f g → Both (Zip AgreesK) o p
    → AgreesM (selected d a xs f o) (selected d b ys g p)
agrees_selected d a b xs ys f g o p h i j k s =
    agrees_then (rows_from xs s ([] ∷ [])) (rows_from ys s ([] ∷ [])) _ _ (agrees_rows xs ys s ([] ∷ []) i)
    (λ rows. agrees_then (filtered f s rows) (filtered g s rows) _ _ (agrees_filtered f g s rows j)
    (λ kept. agrees_then (ordered o s kept) (ordered p s kept) _ _ (agrees_ordered o p s kept k)
    (λ rows. agrees_then (each (λ row. a (row ++ s)) rows) (each (λ row. b (row ++ s)) rows) _ _
    (agrees_all (λ row. a (row ++ s)) (λ row. b (row ++ s)) rows (λ row. h (row ++ s))) (λ values. refl))))

-- ---- definitions

agrees_rest : (a b : NamedMeaning) (xs ys : List NamedMeaning) (f g : Meaning) (s : Bindings) (v : Datum) → a.0 ≡ b.0
    → AgreesM (defined xs f) (defined ys g) → Agrees (defined xs f ((a.0, v) ∷ s)) (defined ys g ((b.0, v) ∷ s))
agrees_rest a b xs ys f g s v e h =
    let P : List ℕ → Type 0 = λ n. Agrees (defined xs f ((a.0, v) ∷ s)) (defined ys g ((n, v) ∷ s)) in
    subst P e (h ((a.0, v) ∷ s))

pub agrees_defined : (xs ys : List NamedMeaning) (f g : Meaning) → Zip AgreesN xs ys → AgreesM f g
    → AgreesM (defined xs f) (defined ys g)
agrees_defined [] [] f g z h s = h s
agrees_defined [] (y ∷ ys) f g z h s = absurd z
agrees_defined (x ∷ xs) [] f g z h s = absurd z
agrees_defined (x ∷ xs) (y ∷ ys) f g z h s =
    agrees_then (x.1 s) (y.1 s) _ _ (z.0.1 s)
    (λ v. agrees_rest x y xs ys f g s v z.0.0 (agrees_defined xs ys f g z.1 h))
