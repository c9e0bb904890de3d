-- Pairs whose names rise: look-ups, filters, new pairs, and that names that are there in both of two such lists are one
-- list.
use Rattle.std.proofs.Common.{◌≡◌, ℕ, List, [], ◌∷◌, Option, Some, None, Bool, true, false, cond, IsTrue, Ordering}
use Rattle.std.proofs.Common.{Less, Equal, Greater, refl, sym, ap, ◌∙◌, subst}
use Rattle.std.specs.Prelude.{filter, is_some}
use Rattle.std.specs.Ordering.{is_eq, ordering_reverse}
use Rattle.std.specs.Str.{bytes_eq}
use Rattle.std.proofs.lemmas.Cmp.{nat_list_cmp_total}
use Rattle.std.proofs.lemmas.Map.Text.{is_eq-slice_cmp}
use Rattle.std.proofs.lemmas.Slice.Eq.{bytes_eq-Decides}
use Rattle.qc_containers.specs.Pairs.{lookup, put}
use Rattle.qc_containers.specs.Rising.{text_cmp, Above, Rising}
use Rattle.qc_containers.proofs.Putting.{Rising-put}
use Rattle.qc_types.specs.Rows.{names}
use Rattle.qc_typing.specs.FieldTypes.{put_new, put_found, chosen, over}

-- the first value, if there is one, and else the second
abbrev pub or_else : {T : Type 0} → Option T → Option T → Option T
or_else None o = o
or_else (Some v) o = Some v

-- ---- names above others

pub same_name : (m n : List ℕ) → IsTrue (bytes_eq m n) → m ≡ n
same_name m n e = (bytes_eq-Decides m n).0 e

pub name_itself : (n : List ℕ) → bytes_eq n n ≡ true
name_itself n = (bytes_eq-Decides n n).1 refl

by_order : (m n : List ℕ) (o : Ordering) → text_cmp m n ≡ o → bytes_eq m n ≡ is_eq o
by_order m n o e = sym (is_eq-slice_cmp m n) ∙ ap is_eq e

turned : (m n : List ℕ) (o : Ordering) → text_cmp m n ≡ o → text_cmp n m ≡ ordering_reverse o
turned m n o e = nat_list_cmp_total.antisymm n m ∙ ap ordering_reverse e

above_trans : {T : Type 0} (m n : List ℕ) (ps : List (List ℕ × T)) → text_cmp m n ≡ Less → Above n ps → Above m ps
above_trans m n [] e a = tt
above_trans m n (p ∷ ps) e a = (nat_list_cmp_total.trans m n p.0 e a.0, above_trans m n ps e a.1)

-- what is above a name has it not
pub absent_above : {T : Type 0} (n : List ℕ) (ps : List (List ℕ × T)) → Above n ps → lookup n ps ≡ None
absent_above n [] a = refl
absent_above n (p ∷ ps) a = rw (by_order p.0 n Greater (turned n p.0 Less a.0)) (absent_above n ps a.1)

-- ---- the names that are there are the names, in order

here : {T : Type 0} (p : List ℕ × T) (ps : List (List ℕ × T)) → lookup p.0 (p ∷ ps) ≡ Some p.1
here p ps = rw (name_itself p.0) refl

later : {T : Type 0} (n : List ℕ) (p : List ℕ × T) (ps : List (List ℕ × T)) → bytes_eq p.0 n ≡ false
    → lookup n (p ∷ ps) ≡ lookup n ps
later n p ps e = rw e refl

abbrev Alike : {A B : Type 0} → List (List ℕ × A) → List (List ℕ × B) → Type 0
Alike ps qs = (n : List ℕ) → is_some (lookup n ps) ≡ is_some (lookup n qs)

alike_later : {A B : Type 0} (n : List ℕ) (p : List ℕ × A) (q : List ℕ × B) (ps : List (List ℕ × A))
    (qs : List (List ℕ × B)) (b : Bool) → bytes_eq p.0 n ≡ b → p.0 ≡ q.0 → Above p.0 ps → Above q.0 qs
    → Alike (p ∷ ps) (q ∷ qs) → is_some (lookup n ps) ≡ is_some (lookup n qs)
alike_later n p q ps qs true e same a b h =
    let at = same_name p.0 n e in
    let P : List ℕ → Type 0 = λ k. is_some (lookup k ps) ≡ is_some (lookup k qs) in
    let Q : List ℕ → Type 0 = λ k. Above k qs in
    subst P at (rw (absent_above p.0 ps a, absent_above p.0 qs (subst Q (sym same) b)) refl)
alike_later n p q ps qs false e same a b h =
    ap is_some (sym (later n p ps e)) ∙ h n ∙ ap is_some (later n q qs (ap (λ k. bytes_eq k n) (sym same) ∙ e))

names_at : {A B : Type 0} (o : Ordering) (p : List ℕ × A) (q : List ℕ × B) (ps : List (List ℕ × A))
    (qs : List (List ℕ × B)) → text_cmp p.0 q.0 ≡ o → Rising (p ∷ ps) → Rising (q ∷ qs) → Alike (p ∷ ps) (q ∷ qs)
    → (Alike ps qs → names ps ≡ names qs) → names (p ∷ ps) ≡ names (q ∷ qs)
names_at Less p q ps qs e r s h ih =
    let none : lookup p.0 (q ∷ qs) ≡ None = absent_above p.0 (q ∷ qs) (e, above_trans p.0 q.0 qs e s.0) in
    let t : true ≡ false = ap is_some (sym (here p ps)) ∙ h p.0 ∙ ap is_some none in absurd (cc)
names_at Equal p q ps qs e r s h ih =
    let same = same_name p.0 q.0 (by_order p.0 q.0 Equal e) in
    λ i. same i ∷ ih (λ n. alike_later n p q ps qs (bytes_eq p.0 n) refl same r.0 s.0 h) i
names_at Greater p q ps qs e r s h ih =
    let up = turned p.0 q.0 Greater e in
    let none : lookup q.0 (p ∷ ps) ≡ None = absent_above q.0 (p ∷ ps) (up, above_trans q.0 p.0 ps up r.0) in
    let t : false ≡ true = ap is_some (sym none) ∙ h q.0 ∙ ap is_some (here q qs) in absurd (cc)

pub same_rising : {A B : Type 0} (ps : List (List ℕ × A)) (qs : List (List ℕ × B)) → Rising ps → Rising qs → Alike ps qs
    → names ps ≡ names qs
same_rising [] [] r s h = refl
same_rising [] (q ∷ qs) r s h = let t : false ≡ true = h q.0 ∙ ap is_some (here q qs) in absurd (cc)
same_rising (p ∷ ps) [] r s h = let t : true ≡ false = ap is_some (sym (here p ps)) ∙ h p.0 in absurd (cc)
same_rising (p ∷ ps) (q ∷ qs) r s h = names_at (text_cmp p.0 q.0) p q ps qs refl r s h (same_rising ps qs r.1 s.1)

-- ---- what rises

above_names : {A B : Type 0} (n : List ℕ) (ps : List (List ℕ × A)) (qs : List (List ℕ × B)) → names ps ≡ names qs
    → Above n ps → Above n qs
above_names n [] [] e a = tt
above_names n [] (q ∷ qs) e a = absurd (cc)
above_names n (p ∷ ps) [] e a = absurd (cc)
above_names n (p ∷ ps) (q ∷ qs) e a =
    let P : List ℕ → Type 0 = λ m. text_cmp n m ≡ Less in let first : p.0 ≡ q.0 = cc in
    let rest : names ps ≡ names qs = cc in (subst P first a.0, above_names n ps qs rest a.1)

-- it is the names that rise
pub rising_names : {A B : Type 0} (ps : List (List ℕ × A)) (qs : List (List ℕ × B)) → names ps ≡ names qs → Rising ps
    → Rising qs
rising_names [] [] e r = tt
rising_names [] (q ∷ qs) e r = absurd (cc)
rising_names (p ∷ ps) [] e r = absurd (cc)
rising_names {A} {B} (p ∷ ps) (q ∷ qs) e r =
    let first : p.0 ≡ q.0 = cc in let rest : names ps ≡ names qs = cc in
    let P : List ℕ → Type 0 = λ m. Above m qs in
    (subst P first (above_names p.0 ps qs rest r.0), rising_names ps qs rest r.1)

pub rising_one : {T : Type 0} (n : List ℕ) (v : T) → Rising ((n, v) ∷ [])
rising_one n v = (tt, tt)

above_filter : {T : Type 0} (test : List ℕ × T → Bool) (n : List ℕ) (ps : List (List ℕ × T)) → Above n ps
    → Above n (filter test ps)
above_filter test n [] a = tt
above_filter test n (p ∷ ps) a =
    elim (test p) as (λ b. Above n (cond b (p ∷ filter test ps) (filter test ps)))
    [ true ↦ (a.0, above_filter test n ps a.1) | false ↦ above_filter test n ps a.1 ]

pub rising_filter : {T : Type 0} (test : List ℕ × T → Bool) (ps : List (List ℕ × T)) → Rising ps
    → Rising (filter test ps)
rising_filter test [] r = tt
rising_filter test (p ∷ ps) r =
    elim (test p) as (λ b. Rising (cond b (p ∷ filter test ps) (filter test ps)))
    [ true ↦ (above_filter test p.0 ps r.0, rising_filter test ps r.1) | false ↦ rising_filter test ps r.1 ]

none_there : {T : Type 0} (o : Option T) → is_some o ≡ false → o ≡ None
none_there None e = refl
none_there (Some v) e = absurd (cc)

put_new_at : {T : Type 0} (n : List ℕ) (v : T) (ps : List (List ℕ × T)) (b : Bool) → is_some (lookup n ps) ≡ b
    → Rising ps → Rising (cond b ps (put n v ps))
put_new_at n v ps true e r = r
put_new_at n v ps false e r = Rising-put n v ps r (none_there (lookup n ps) e)

pub rising_put_new : {T : Type 0} (n : List ℕ) (v : T) (ps : List (List ℕ × T)) → Rising ps → Rising (put_new n v ps)
rising_put_new n v ps r = put_new_at n v ps (is_some (lookup n ps)) refl r

rising_put_found : {T : Type 0} (n : List ℕ) (o : Option T) (ps : List (List ℕ × T)) → Rising ps
    → Rising (put_found n o ps)
rising_put_found n None ps r = r
rising_put_found n (Some v) ps r = rising_put_new n v ps r

pub rising_chosen : {T : Type 0} (ns : List (List ℕ)) (ps : List (List ℕ × T)) → Rising (chosen ns ps)
rising_chosen [] ps = tt
rising_chosen (n ∷ ns) ps = rising_put_found n (lookup n ps) (chosen ns ps) (rising_chosen ns ps)

pub rising_over : {T : Type 0} (ps qs : List (List ℕ × T)) → Rising qs → Rising (over ps qs)
rising_over [] qs r = r
rising_over (p ∷ ps) qs r = rising_over ps (put_new p.0 p.1 qs) (rising_put_new p.0 p.1 qs r)
