-- Look-ups among the fields that are put, chosen and filtered.
use Rattle.std.proofs.Common.{◌≡◌, ℕ, List, [], ◌∷◌, Option, Some, None, Bool, true, false, ◌||◌, cond, IsTrue}
use Rattle.std.proofs.Common.{refl, sym, ap, ◌∙◌}
use Rattle.std.specs.Prelude.{filter, is_some}
use Rattle.std.specs.Str.{bytes_eq}
use Rattle.qc_containers.specs.Pairs.{lookup, put}
use Rattle.qc_types.proofs.PutLaws.{lookup-put}
use Rattle.qc_ops.specs.Records.{is_among}
use Rattle.qc_typing.specs.FieldTypes.{put_new, put_found, chosen, over}
use Rattle.qc_typing.proofs.RisingLaws.{or_else, same_name, name_itself}

or_none : {T : Type 0} (o : Option T) → or_else o None ≡ o
or_none None = refl
or_none (Some v) = refl

new_there : {T : Type 0} (b : Bool) (v : T) (o : Option T) → (IsTrue b → is_some o ≡ true)
    → o ≡ or_else o (cond b (Some v) None)
new_there true v None h = let t : false ≡ true = h refl in absurd (cc)
new_there true v (Some w) h = refl
new_there false v o h = sym (or_none o)

new_put : {T : Type 0} (b : Bool) (v : T) (o : Option T) → (IsTrue b → is_some o ≡ false)
    → cond b (Some v) o ≡ or_else o (cond b (Some v) None)
new_put true v None h = refl
new_put true v (Some w) h = let t : true ≡ false = h refl in absurd (cc)
new_put false v o h = sym (or_none o)

put_new_at : {T : Type 0} (n m : List ℕ) (v : T) (ps : List (List ℕ × T)) (b : Bool) → is_some (lookup n ps) ≡ b
    → lookup m (cond b ps (put n v ps)) ≡ or_else (lookup m ps) (cond (bytes_eq n m) (Some v) None)
put_new_at n m v ps true e =
    new_there (bytes_eq n m) v (lookup m ps) (λ s. ap (λ k. is_some (lookup k ps)) (sym (same_name n m s)) ∙ e)
put_new_at n m v ps false e =
    lookup-put n m v ps ∙ new_put (bytes_eq n m) v (lookup m ps)
    (λ s. ap (λ k. is_some (lookup k ps)) (sym (same_name n m s)) ∙ e)

pub lookup-put_new : {T : Type 0} (n m : List ℕ) (v : T) (ps : List (List ℕ × T))
    → lookup m (put_new n v ps) ≡ or_else (lookup m ps) (cond (bytes_eq n m) (Some v) None)
lookup-put_new n m v ps = put_new_at n m v ps (is_some (lookup n ps)) refl

else_cond : {T : Type 0} (b : Bool) (v : T) (x y : Option T)
    → or_else (or_else x (cond b (Some v) None)) y ≡ or_else x (cond b (Some v) y)
else_cond true v None y = refl
else_cond false v None y = refl
else_cond b v (Some w) y = refl

-- the second's field, if it has one, and else the first's
pub lookup-over : {T : Type 0} (m : List ℕ) (ps qs : List (List ℕ × T))
    → lookup m (over ps qs) ≡ or_else (lookup m qs) (lookup m ps)
lookup-over m [] qs = sym (or_none (lookup m qs))
lookup-over m (p ∷ ps) qs =
    lookup-over m ps (put_new p.0 p.1 qs) ∙ ap (λ o. or_else o (lookup m ps)) (lookup-put_new p.0 m p.1 qs)
    ∙ else_cond (bytes_eq p.0 m) p.1 (lookup m qs) (lookup m ps)

-- ---- at names

none_both : {T : Type 0} (b : Bool) → ◌≡◌ {A = Option T} (cond b None None) None
none_both true = refl
none_both false = refl

chosen_at : {T : Type 0} (n m : List ℕ) (o : Option T) (b : Bool) (ns : List (List ℕ)) (ps qs : List (List ℕ × T))
    → lookup n ps ≡ o → bytes_eq m n ≡ b → bytes_eq n m ≡ b → lookup m qs ≡ cond (is_among m ns) (lookup m ps) None
    → lookup m (put_found n o qs) ≡ cond (b || is_among m ns) (lookup m ps) None
chosen_at n m None true ns ps qs e f f' ih =
    let same : lookup m ps ≡ None = ap (λ k. lookup k ps) (same_name m n f) ∙ e in
    ih ∙ rw same (none_both (is_among m ns))
chosen_at n m None false ns ps qs e f f' ih = ih
chosen_at n m (Some v) true ns ps qs e f f' ih =
    let same : lookup m ps ≡ Some v = ap (λ k. lookup k ps) (same_name m n f) ∙ e in
    lookup-put_new n m v qs ∙ rw (f', ih, same)
    (elim (is_among m ns) as (λ k. or_else (cond k (Some v) None) (Some v) ≡ Some v) [ true ↦ refl | false ↦ refl ])
chosen_at n m (Some v) false ns ps qs e f f' ih = lookup-put_new n m v qs ∙ rw f' (or_none (lookup m qs) ∙ ih)

turned_eq : (m n : List ℕ) → bytes_eq m n ≡ bytes_eq n m
turned_eq m n =
    both_ways (bytes_eq m n) (bytes_eq n m) (λ e. rw (same_name m n e) (name_itself n))
    (λ e. rw (same_name n m e) (name_itself m))
  where
    both_ways : (a b : Bool) → (IsTrue a → IsTrue b) → (IsTrue b → IsTrue a) → a ≡ b
    both_ways true b f g = sym (f refl)
    both_ways false true f g = g refl
    both_ways false false f g = refl

pub lookup-chosen : {T : Type 0} (m : List ℕ) (ns : List (List ℕ)) (ps : List (List ℕ × T))
    → lookup m (chosen ns ps) ≡ cond (is_among m ns) (lookup m ps) None
lookup-chosen m [] ps = refl
lookup-chosen m (n ∷ ns) ps =
    chosen_at n m (lookup n ps) (bytes_eq m n) ns ps (chosen ns ps) refl refl (turned_eq n m) (lookup-chosen m ns ps)

-- a name that is none of those chosen
pub chosen_absent : {T : Type 0} (n m : List ℕ) (ns : List (List ℕ)) (ps qs : List (List ℕ × T)) → qs ≡ chosen ns ps
    → n ≡ m → is_among m ns ≡ false → lookup n qs ≡ None
chosen_absent n m ns ps qs e same out = rw (e, same) (lookup-chosen m ns ps ∙ rw out refl)

abbrev among : {T : Type 0} → List (List ℕ) → List ℕ × T → Bool
among ns pair = is_among pair.0 ns

filtered_at : {T : Type 0} (m : List ℕ) (ns : List (List ℕ)) (p : List ℕ × T) (ps : List (List ℕ × T)) (k b : Bool)
    → is_among p.0 ns ≡ k → bytes_eq p.0 m ≡ b
    → lookup m (filter (among ns) ps) ≡ cond (is_among m ns) (lookup m ps) None
    → lookup m (cond k (p ∷ filter (among ns) ps) (filter (among ns) ps))
    ≡ cond (is_among m ns) (cond b (Some p.1) (lookup m ps)) None
filtered_at m ns p ps true true e f ih = rw (f, ← same_name p.0 m f, e) refl
filtered_at m ns p ps true false e f ih = rw f ih
filtered_at m ns p ps false true e f ih =
    let at : is_among m ns ≡ false = ap (λ k. is_among k ns) (sym (same_name p.0 m f)) ∙ e in ih ∙ rw at refl
filtered_at m ns p ps false false e f ih = ih

pub lookup-filter : {T : Type 0} (m : List ℕ) (ns : List (List ℕ)) (ps : List (List ℕ × T))
    → lookup m (filter (among ns) ps) ≡ cond (is_among m ns) (lookup m ps) None
lookup-filter m ns [] = sym (none_both (is_among m ns))
lookup-filter m ns (p ∷ ps) = filtered_at m ns p ps (is_among p.0 ns) (bytes_eq p.0 m) refl refl (lookup-filter m ns ps)
