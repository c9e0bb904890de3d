-- The outcomes of arrays and of calls.
use Rattle.std.proofs.Common.{◌≡◌, ◌∙◌, List, map, ap, sym, subst}
use Rattle.std.specs.Prelude.{Result}
use Rattle.qc_data.specs.Outcome.{Gives, Mode, Value, and_then, bits64}
use Rattle.qc_data.specs.declared.halt.Halt.{Halt}
use Rattle.qc_data.specs.declared.data.Json.{Json}
use Rattle.qc_data.specs.declared.data.Json.TheVariants as json
use Rattle.qc_rt.specs.Runtime.{runtime}
use Rattle.qc_rt.specs.declared.function.Rt.{Rt}
use Rattle.qc_js.specs.declared.tree.Expr.{Expr}
use Rattle.qc_js.specs.declared.tree.Expr.TheOpen.{Expr-F}
use Rattle.qc_js.specs.declared.tree.Expr.TheFolds.{fold-roll-Expr}
use Rattle.qc_js.specs.declared.tree.Expr.TheVariants as tree
use Rattle.qc_js.specs.Meaning.{Reading, Store, expr, expr_form, values_of}

of_array : (m : Mode) (w : Json) (es : List Expr) (st : Store)
    → expr m w (tree.Array es) st ≡ and_then (values_of (map (expr m w) es) st) (λ js. Value (json.Array js))
of_array m w es st =
    ap (λ e. expr m w e st) (sym (tree.rolls-Array es))
    ∙ ap (λ (f : Reading). f st) (fold-roll-Expr Reading (expr_form m w) (Expr-F.Array es))

of_call : (m : Mode) (w : Json) (f : Rt) (es : List Expr) (st : Store)
    → expr m w (tree.Call f es) st ≡ and_then (values_of (map (expr m w) es) st) (runtime m f)
of_call m w f es st =
    ap (λ e. expr m w e st) (sym (tree.rolls-Call f es))
    ∙ ap (λ (r : Reading). r st) (fold-roll-Expr Reading (expr_form m w) (Expr-F.Call f es))

pub array_given : (w : Json) (e : Expr) (es : List Expr) (st : Store) (r : Result Json Halt) → e ≡ tree.Array es
    → Gives (and_then (values_of (map (expr bits64 w) es) st) (λ js. Value (json.Array js))) r
    → Gives (expr bits64 w e st) r
array_given w e es st r is h =
    subst (λ o. Gives o r) (sym (ap (λ x. expr bits64 w x st) is ∙ of_array bits64 w es st)) h

pub call_given : (w : Json) (e : Expr) (f : Rt) (es : List Expr) (st : Store) (r : Result Json Halt)
    → e ≡ tree.Call f es → Gives (and_then (values_of (map (expr bits64 w) es) st) (runtime bits64 f)) r
    → Gives (expr bits64 w e st) r
call_given w e f es st r is h =
    subst (λ o. Gives o r) (sym (ap (λ x. expr bits64 w x st) is ∙ of_call bits64 w f es st)) h
