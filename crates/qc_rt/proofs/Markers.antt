-- Markers among the names of objects.
use Rattle.std.proofs.Common.{◌≡◌, ℕ, ◌<◌, Bool, true, false, cond, List, [], ◌∷◌, map, refl, sym, ap, subst, ◌∙◌}
use Rattle.std.proofs.Common.{arith, get_or, length, Less}
use Rattle.std.specs.Ordering.{is_lt}
use Rattle.std.proofs.lemmas.Cmp.{nat_list_cmp_total}
use Rattle.std.proofs.lemmas.Slice.Eq.{bytes_eq-Decides}
use Rattle.std.specs.Prelude.{◌||◌, ◌==◌, codes, is_some, Some}
use Rattle.std.proofs.lemmas.Bool.Decides.{nat_tests}
use Rattle.std.specs.Str.{bytes_eq}
use Rattle.qc_containers.specs.Name.{is_marker}
use Rattle.qc_containers.specs.Pairs.{lookup}
use Rattle.qc_containers.specs.Rising.{on_value, text_cmp, Above, Rising}
use Rattle.qc_containers.proofs.Truth.{is_Less}
use Rattle.qc_rt.specs.Seen.{has_marker}
use Rattle.qc_rt.specs.JsonKinds.{has_name}

pub has_marker-map : {A B : Type 0} (h : A → B) (ps : List (List ℕ × A))
    → has_marker (map (on_value h) ps) ≡ has_marker ps
has_marker-map h [] = refl
has_marker-map h (p ∷ ps) = ap (λ b. is_marker p.0 || b) (has_marker-map h ps)

there_first : {A : Type 0} (name : List ℕ) (p : List ℕ × A) (ps : List (List ℕ × A))
    → has_name name (p ∷ ps) ≡ (bytes_eq p.0 name || has_name name ps)
there_first name p ps =
    elim (bytes_eq p.0 name) as (λ b. is_some (cond b (Some p.1) (lookup name ps)) ≡ (b || has_name name ps))
    [ true ↦ refl | false ↦ refl ]

-- tests in another order
exchanged : (a b c d : Bool) → ((a || b) || (c || d)) ≡ ((a || c) || (b || d))
exchanged true b c d = refl
exchanged false true true d = refl
exchanged false true false d = refl
exchanged false false c d = refl

or_later : (a b c : Bool) → ((a || b) || c) ≡ (a || (b || c))
or_later true b c = refl
or_later false b c = refl

-- four tests of the first and of the rest
regrouped : (a b c d e f g h : Bool)
    → (((a || e) || (b || f)) || ((c || g) || (d || h))) ≡ ((a || (b || (c || d))) || ((e || f) || (g || h)))
regrouped a b c d e f g h =
    (λ i. exchanged a e b f i || exchanged c g d h i) ∙ exchanged (a || b) (e || f) (c || d) (g || h)
    ∙ ap (λ x. x || ((e || f) || (g || h))) (or_later a b (c || d))

pub marker_found : {A : Type 0} (ps : List (List ℕ × A))
    → ((has_name (codes "$left") ps || has_name (codes "$right") ps)
    || (has_name (codes "$class") ps || has_name (codes "$data") ps))
    ≡ has_marker ps
marker_found [] = refl
marker_found (p ∷ ps) =
    (λ i. (there_first (codes "$left") p ps i || there_first (codes "$right") p ps i)
    || (there_first (codes "$class") p ps i || there_first (codes "$data") p ps i))
    ∙ regrouped (bytes_eq p.0 (codes "$left")) (bytes_eq p.0 (codes "$right")) (bytes_eq p.0 (codes "$class"))
    (bytes_eq p.0 (codes "$data")) (has_name (codes "$left") ps) (has_name (codes "$right") ps)
    (has_name (codes "$class") ps)
    (has_name (codes "$data") ps)
    ∙ ap (λ b. is_marker p.0 || b) (marker_found ps)

-- where the first of them is there
pub first_found : {A : Type 0} (ps : List (List ℕ × A))
    → (has_name (codes "$left") ps || has_name (codes "$right") ps) ≡ true → has_marker ps ≡ true
first_found ps e =
    sym (marker_found ps) ∙ ap (λ b. b || (has_name (codes "$class") ps || has_name (codes "$data") ps)) e

-- the markers of sides and of class's values are markers
pub left_is : (s : List ℕ) → bytes_eq s (codes "$left") ≡ true → is_marker s ≡ true
left_is s e = rw e refl

right_one : (a b c d : Bool) → b ≡ true → (a || (b || (c || d))) ≡ true
right_one true b c d e = refl
right_one false b c d e = rw e refl

class_one : (a b c d : Bool) → c ≡ true → (a || (b || (c || d))) ≡ true
class_one true b c d e = refl
class_one false true c d e = refl
class_one false false c d e = rw e refl

pub right_is : (s : List ℕ) → bytes_eq s (codes "$right") ≡ true → is_marker s ≡ true
right_is s e =
    right_one (bytes_eq s (codes "$left")) (bytes_eq s (codes "$right")) (bytes_eq s (codes "$class"))
    (bytes_eq s (codes "$data")) e

pub class_is : (s : List ℕ) → bytes_eq s (codes "$class") ≡ true → is_marker s ≡ true
class_is s e =
    class_one (bytes_eq s (codes "$left")) (bytes_eq s (codes "$right")) (bytes_eq s (codes "$class"))
    (bytes_eq s (codes "$data")) e

-- ---- names behind the last marker

abbrev Behind : List ℕ → Type 0
Behind n = text_cmp (codes "$right") n ≡ Less

unlike_at : (b : Bool) (n m : List ℕ) → bytes_eq n m ≡ b → Behind n → (Behind m → ⊥) → b ≡ false
unlike_at true n m e h k = absurd (k (subst Behind ((bytes_eq-Decides n m).0 e) h))
unlike_at false n m e h k = refl

unlike_marker : (n m : List ℕ) → Behind n → (Behind m → ⊥) → bytes_eq n m ≡ false
unlike_marker n m h k = unlike_at (bytes_eq n m) n m refl h k

left_before : Behind (codes "$left") → ⊥
left_before e = absurd (cc)

right_before : Behind (codes "$right") → ⊥
right_before e = absurd (cc)

class_before : Behind (codes "$class") → ⊥
class_before e = absurd (cc)

data_before : Behind (codes "$data") → ⊥
data_before e = absurd (cc)

behind_unmarked : (n : List ℕ) → Behind n → is_marker n ≡ false
behind_unmarked n h =
    rw (
      unlike_marker n (codes "$left") h left_before,
      unlike_marker n (codes "$right") h right_before,
      unlike_marker n (codes "$class") h class_before,
      unlike_marker n (codes "$data") h data_before,
    ) refl

-- names that come after one that does
after_unmarked : {A : Type 0} (n : List ℕ) (ps : List (List ℕ × A)) → Behind n → Above n ps → has_marker ps ≡ false
after_unmarked n [] h a = refl
after_unmarked n (p ∷ ps) h a =
    rw (behind_unmarked p.0 (nat_list_cmp_total.trans (codes "$right") n p.0 h a.0), after_unmarked n ps h a.1) refl

pub first_behind : {A : Type 0} (p : List ℕ × A) (ps : List (List ℕ × A)) → Rising (p ∷ ps) → Behind p.0
    → has_marker (p ∷ ps) ≡ false
first_behind p ps r h = rw (behind_unmarked p.0 h, after_unmarked p.0 ps h r.0) refl

pub begins_behind : {A : Type 0} (ps : List (List ℕ × A)) (p : List ℕ × A) → Rising ps → 0 < length ps
    → p ≡ get_or ps 0 p → is_lt (text_cmp (codes "$right") p.0) ≡ true → has_marker ps ≡ false
begins_behind [] p r lt at h = absurd (omega (arith, lt))
begins_behind (q ∷ ps) p r lt at h =
    first_behind q ps r (is_Less _ (ap (λ k. is_lt (text_cmp (codes "$right") k.0)) (sym at) ∙ h))

pub empty_unmarked : {A : Type 0} (ps : List (List ℕ × A)) → length ps ≡ 0 → has_marker ps ≡ false
empty_unmarked [] e = refl
empty_unmarked (p ∷ ps) e = absurd (omega (arith, e))

more_than_none : (n : ℕ) → (n == 0) ≡ false → 0 < n
more_than_none n e = grind (arith, nat_tests)

-- the same of what code reads
pub begins_at : {A : Type 0} (qs ps : List (List ℕ × A)) (p : List ℕ × A) (s : List ℕ) (t e : Bool) → qs ≡ ps
    → Rising ps
    → e ≡ (length qs == 0) → e ≡ false → p ≡ get_or qs 0 p → s ≡ (get_or qs 0 p).0
    → t ≡ is_lt (text_cmp (codes "$right") s) → t ≡ true → has_marker ps ≡ false
begins_at qs ps p s t e is r n f at is_s below h =
    let first : s ≡ p.0 = is_s ∙ ap (λ k. k.0) (sym at) in
    ap has_marker (sym is)
    ∙ begins_behind qs p (subst Rising (sym is) r) (more_than_none (length qs) (sym n ∙ f)) at
    (ap (λ k. is_lt (text_cmp (codes "$right") k)) (sym first) ∙ sym below ∙ h)
