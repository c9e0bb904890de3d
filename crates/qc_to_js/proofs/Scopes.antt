-- The same variables are in scope on both sides, behind each declaration.
use Rattle.std.proofs.Common.{◌≡◌, ◌∙◌, ℕ, ◌==◌, Bool, true, false, cond, [], ◌∷◌, ◌++◌, Option, Some, None, refl, sym}
use Rattle.std.proofs.Common.{ap, subst, arith}
use Rattle.std.proofs.lemmas.Bool.Decides.{nat_tests}
use Rattle.std.specs.Prelude.{is_some, not, option_map, unwrap_or}
use Rattle.qc_imp.specs.WellFormed as rules
use Rattle.qc_js.specs.WellFormed as scopes
use Rattle.qc_js.specs.declared.scope.Class.{Class}
use Rattle.qc_to_js.specs.inner.Cells.{class_json, Mirrors}
use Rattle.qc_to_js.specs.inner.Kept.{IsScope}

pub none_mirrors : Mirrors [] []
none_mirrors x = refl

class_behind : (y : ℕ) (t : scopes.Scope) (x : ℕ) (c : Class)
    → scopes.class_of y (t ++ (x, c) ∷ [])
    ≡ cond (is_some (scopes.class_of y t)) (scopes.class_of y t) (cond (x == y) (Some c) None)
class_behind y [] x c = refl
class_behind y (b ∷ t) x c =
    elim (b.0 == y) as (λ same. cond same (Some b.1) (scopes.class_of y (t ++ (x, c) ∷ []))
    ≡ cond (is_some (cond same (Some b.1) (scopes.class_of y t))) (cond same (Some b.1) (scopes.class_of y t))
    (cond (x == y) (Some c) None))
    [ true ↦ refl | false ↦ class_behind y t x c ]

whole_option : {A : Type 0} (o : Option A) → cond (is_some o) o None ≡ o
whole_option None = refl
whole_option (Some a) = refl

same_number : (x y : ℕ) → (x == y) ≡ true → x ≡ y
same_number x y e = grind (arith, nat_tests)

module _ (s : rules.Scope) (t : scopes.Scope) (mirrors : Mirrors s t) (x : ℕ) (c : rules.Class)
    (free : rules.class_of x s ≡ None) where
  free_too : scopes.class_of x t ≡ None
  free_too = mirrors x ∙ ap (option_map class_json) free

  more_at : (y : ℕ) (same : Bool) → (x == y) ≡ same
      → cond (is_some (scopes.class_of y t)) (scopes.class_of y t) (cond same (Some (class_json c)) None)
      ≡ option_map class_json (cond same (Some c) (rules.class_of y s))
  more_at y true e =
      let gone : scopes.class_of y t ≡ None = ap (λ z. scopes.class_of z t) (sym (same_number x y e)) ∙ free_too in
      rw gone refl
  more_at y false e = whole_option (scopes.class_of y t) ∙ mirrors y

  pub more_mirrors : Mirrors ((x, c) ∷ s) (t ++ (x, class_json c) ∷ [])
  more_mirrors y = class_behind y t x (class_json c) ∙ more_at y (x == y) refl

some_same : {A : Type 0} (a b : A) → Some a ≡ Some b → a ≡ b
some_same a b e = ap (λ o. unwrap_or o a) e

-- the same variable may be declared
declared_at : (s after : rules.Scope) (t : scopes.Scope) → Mirrors s t → (x : ℕ) (c : rules.Class)
    → (o : Option rules.Class) → rules.class_of x s ≡ o → cond (not (is_some o)) (Some ((x, c) ∷ s)) None ≡ Some after
    → (p : Option Class) → p ≡ option_map class_json o
    → IsScope after (cond (is_some p) None (Some (t ++ (x, class_json c) ∷ [])))
declared_at s after t h x c None free e p is =
    let same : (x, c) ∷ s ≡ after = some_same ((x, c) ∷ s) after e in
    rw is (
      (t ++ (x, class_json c) ∷ []),
      refl,
      subst (λ a. Mirrors a (t ++ (x, class_json c) ∷ [])) same (more_mirrors s t h x c free),
    )
declared_at s after t h x c (Some d) free e p is = absurd (cc)

pub declared_scope : (s after : rules.Scope) (t : scopes.Scope) (x : ℕ) (c : rules.Class) → Mirrors s t
    → rules.declared x c s ≡ Some after → IsScope after (scopes.declared x (class_json c) t)
declared_scope s after t x c h e =
    declared_at s after t h x c (rules.class_of x s) refl e (scopes.class_of x t) (h x)

-- ---- uses

pub reads_too : (o : Option rules.Class) → rules.may_read o ≡ true
    → scopes.may_read (option_map class_json o) ≡ true
reads_too None e = absurd (cc)
reads_too (Some rules.Settable) e = refl
reads_too (Some rules.Readable) e = refl
reads_too (Some rules.Pushable) e = absurd (cc)

pub sets_too : (o : Option rules.Class) → rules.may_set o ≡ true → scopes.may_set (option_map class_json o) ≡ true
sets_too None e = absurd (cc)
sets_too (Some rules.Settable) e = refl
sets_too (Some rules.Readable) e = absurd (cc)
sets_too (Some rules.Pushable) e = absurd (cc)

pub pushes_too : (o : Option rules.Class) → rules.may_push o ≡ true → scopes.may_push (option_map class_json o) ≡ true
pushes_too None e = absurd (cc)
pushes_too (Some rules.Settable) e = absurd (cc)
pushes_too (Some rules.Readable) e = absurd (cc)
pushes_too (Some rules.Pushable) e = refl
