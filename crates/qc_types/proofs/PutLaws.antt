-- Look-ups among pairs of which one was put in its place.
use Rattle.std.proofs.Common.{◌≡◌, ℕ, List, [], ◌∷◌, Option, Some, None, Bool, true, false, cond, IsTrue, Ordering}
use Rattle.std.proofs.Common.{Less, Equal, Greater, refl, sym, ap, ◌∙◌}
use Rattle.std.specs.Ordering.{is_eq, is_lt}
use Rattle.std.specs.Str.{bytes_eq}
use Rattle.std.proofs.lemmas.Map.Text.{is_eq-slice_cmp}
use Rattle.std.proofs.lemmas.Slice.Eq.{bytes_eq-Decides}
use Rattle.qc_containers.specs.Pairs.{lookup, put}
use Rattle.qc_containers.specs.Rising.{text_cmp}

swapped : {A : Type 0} (a b : Bool) (x y z : A) → (IsTrue a → IsTrue b → ⊥)
    → cond a x (cond b y z) ≡ cond b y (cond a x z)
swapped true true x y z h = absurd (h refl refl)
swapped true false x y z h = refl
swapped false true x y z h = refl
swapped false false x y z h = refl

put_at : {T : Type 0} (o : Bool) (n m : List ℕ) (v : T) (p : List ℕ × T) (ps : List (List ℕ × T))
    → is_lt (text_cmp p.0 n) ≡ o → (IsTrue (is_lt (text_cmp p.0 n)) → bytes_eq p.0 n ≡ false)
    → lookup m (put n v ps) ≡ cond (bytes_eq n m) (Some v) (lookup m ps)
    → lookup m (cond o (p ∷ put n v ps) ((n, v) ∷ p ∷ ps)) ≡ cond (bytes_eq n m) (Some v) (lookup m (p ∷ ps))
put_at true n m v p ps e apart ih =
    rw ih (swapped (bytes_eq p.0 m) (bytes_eq n m) (Some p.1) (Some v) (lookup m ps) (λ a b.
    let same : p.0 ≡ n = (bytes_eq-Decides p.0 m).0 a ∙ sym ((bytes_eq-Decides n m).0 b) in
    let t : true ≡ false =
    sym ((bytes_eq-Decides n n).1 refl) ∙ ap (λ k. bytes_eq k n) (sym same) ∙ apart e in absurd (cc)))
put_at false n m v p ps e apart ih = refl

lt_apart : (o : Ordering) → IsTrue (is_lt o) → is_eq o ≡ false
lt_apart Less e = refl
lt_apart Equal e = absurd (cc)
lt_apart Greater e = absurd (cc)

pub lookup-put : {T : Type 0} (n m : List ℕ) (v : T) (ps : List (List ℕ × T))
    → lookup m (put n v ps) ≡ cond (bytes_eq n m) (Some v) (lookup m ps)
lookup-put n m v [] = refl
lookup-put n m v (p ∷ ps) =
    put_at (is_lt (text_cmp p.0 n)) n m v p ps refl (λ e. sym (is_eq-slice_cmp p.0 n) ∙ lt_apart (text_cmp p.0 n) e)
    (lookup-put n m v ps)
