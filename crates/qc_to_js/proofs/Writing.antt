-- Trees that are written out, and calls of functions on them.
use Rattle.std.proofs.Common.{◌≡◌, ◌∙◌, ℕ, ℤ, suc, ◌==◌, Bool, true, false, List, [], ◌∷◌, ◌++◌, map, length, refl, ap}
use Rattle.std.proofs.Common.{arith}
use Rattle.std.proofs.lemmas.Bool.Decides.{nat_tests}
use Rattle.std.proofs.lemmas.List.{length-map}
use Rattle.qc_containers.proofs.Truth.{and_both}
use Rattle.qc_data.specs.Outcome.{Mode, Outcome, Value, Halts, and_then}
use Rattle.qc_data.specs.declared.data.Json.{Json}
use Rattle.qc_data.specs.declared.data.Json.TheVariants as json
use Rattle.qc_rt.specs.Runtime.{runtime}
use Rattle.qc_rt.specs.Table.{arguments_of}
use Rattle.qc_rt.specs.declared.function.Rt.{Rt}
use Rattle.qc_js.specs.Held.{all_true}
use Rattle.qc_js.specs.Meaning.{Store, expr, values_of}
use Rattle.qc_js.specs.WellFormed.{Scope, expr_fits}
use Rattle.qc_js.specs.declared.tree.Expr.{Expr}
use Rattle.qc_js.specs.declared.tree.Expr.TheVariants as tree
use Rattle.qc_to_js.specs.inner.Written.{Writes, WritesAll}
use Rattle.qc_to_js.proofs.JsonForms.{expr-True, expr-False, expr-Null, expr-Int, expr-Text, expr-Array, expr-Call}
use Rattle.qc_to_js.proofs.JsonForms.{fits-True, fits-False, fits-Null, fits-Int, fits-Text, fits-Array, fits-Call}

-- ---- leaves

pub writes-Null : Writes json.Null tree.Null
writes-Null = record { value = λ m w st. expr-Null m w st; fits = λ s. fits-Null s }

pub writes-Bool : (b : Bool) (e : Expr) → e ≡ elim b as (λ b. Expr) [ true ↦ tree.True | false ↦ tree.False ]
    → Writes (json.Bool b) e
writes-Bool true e is = rw is record { value = λ m w st. expr-True m w st; fits = λ s. fits-True s }
writes-Bool false e is = rw is record { value = λ m w st. expr-False m w st; fits = λ s. fits-False s }

pub writes-Int : (n : ℤ) → Writes (json.Int n) (tree.Int n)
writes-Int n = record { value = λ m w st. expr-Int m w st n; fits = λ s. fits-Int s n }

pub writes-Text : (t : List ℕ) → Writes (json.Text t) (tree.Text t)
writes-Text t = record { value = λ m w st. expr-Text m w st t; fits = λ s. fits-Text s t }

-- ---- lists

pub writes_more : (js : List Json) (es : List Expr) (j : Json) (e : Expr) → WritesAll js es → Writes j e
    → WritesAll (js ++ j ∷ []) (es ++ e ∷ [])
writes_more [] [] j e h k = (k, tt)
writes_more [] (x ∷ es) j e h k = absurd h
writes_more (i ∷ js) [] j e h k = absurd h
writes_more (i ∷ js) (x ∷ es) j e h k = (h.0, writes_more js es j e h.1 k)

only_last : (o : Outcome Json)
    → and_then o (λ j. and_then (Value []) (λ js. Value (j ∷ js))) ≡ and_then o (λ j. Value (j ∷ []))
only_last (Value j) = refl
only_last (Halts why) = refl

behind : (i : Json) (js : List Json) (o : Outcome Json)
    → and_then (and_then o (λ j. Value (js ++ j ∷ []))) (λ ks. Value (i ∷ ks))
    ≡ and_then o (λ j. Value (i ∷ (js ++ j ∷ [])))
behind i js (Value j) = refl
behind i js (Halts why) = refl

-- arguments that are written out, and a last one
pub with_last : (m : Mode) (w : Json) (st : Store) (js : List Json) (es : List Expr) (last : Expr) → WritesAll js es
    → values_of (map (expr m w) (es ++ last ∷ [])) st ≡ and_then (expr m w last st) (λ j. Value (js ++ j ∷ []))
with_last m w st [] [] last h = only_last (expr m w last st)
with_last m w st [] (x ∷ es) last h = absurd h
with_last m w st (i ∷ js) [] last h = absurd h
with_last m w st (i ∷ js) (x ∷ es) last h =
    rw (h.0.value m w st, with_last m w st js es last h.1) (behind i js (expr m w last st))

pub written_values : (m : Mode) (w : Json) (st : Store) (js : List Json) (es : List Expr) → WritesAll js es
    → values_of (map (expr m w) es) st ≡ Value js
written_values m w st [] [] h = refl
written_values m w st [] (x ∷ es) h = absurd h
written_values m w st (i ∷ js) [] h = absurd h
written_values m w st (i ∷ js) (x ∷ es) h = rw (h.0.value m w st, written_values m w st js es h.1) refl

pub written_fit : (s : Scope) (js : List Json) (es : List Expr) → WritesAll js es
    → all_true (map (expr_fits s) es) ≡ true
written_fit s [] [] h = refl
written_fit s [] (x ∷ es) h = absurd h
written_fit s (i ∷ js) [] h = absurd h
written_fit s (i ∷ js) (x ∷ es) h =
    and_both (expr_fits s x) (all_true (map (expr_fits s) es)) (h.0.fits s) (written_fit s js es h.1)

pub as_many : (js : List Json) (es : List Expr) → WritesAll js es → length es ≡ length js
as_many [] [] h = refl
as_many [] (x ∷ es) h = absurd h
as_many (i ∷ js) [] h = absurd h
as_many (i ∷ js) (x ∷ es) h = ap suc (as_many js es h.1)

pub writes-Array : (js : List Json) (es : List Expr) → WritesAll js es → Writes (json.Array js) (tree.Array es)
writes-Array js es h =
    record {
      value = λ m w st. expr-Array m w st es
          ∙ ap (λ o. and_then o (λ js. Value (json.Array js))) (written_values m w st js es h);
      fits = λ s. fits-Array s es ∙ written_fit s js es h;
    }

pub same_numbers : (a b : ℕ) → a ≡ b → (a == b) ≡ true
same_numbers a b e = grind (arith, nat_tests)

-- a call of a function on arguments that are written out
pub writes-Call : (f : Rt) (js : List Json) (es : List Expr) (j : Json) → WritesAll js es → length js ≡ arguments_of f
    → ((m : Mode) → runtime m f js ≡ Value j) → Writes j (tree.Call f es)
writes-Call f js es j h n gives =
    record {
      value = λ m w st. expr-Call m w st f es
          ∙ ap (λ o. and_then o (runtime m f)) (written_values m w st js es h) ∙ gives m;
      fits = λ s. fits-Call s f es
          ∙ and_both (length (map (expr_fits s) es) == arguments_of f) (all_true (map (expr_fits s) es))
          (same_numbers (length (map (expr_fits s) es)) (arguments_of f)
          (length-map es (expr_fits s) ∙ as_many js es h ∙ n))
          (written_fit s js es h);
    }
