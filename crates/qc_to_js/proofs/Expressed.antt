-- The expressions that are made for those over imp.
use Rattle.std.proofs.Common.{◌≡◌, ◌∙◌, ℕ, ◌+◌, ◌==◌, Bool, true, false, List, [], ◌∷◌, ◌++◌, map, length, refl, sym}
use Rattle.std.proofs.Common.{ap, subst}
use Rattle.std.specs.Prelude.{Err, IfOk, Ok, Result}
use Rattle.std.proofs.lemmas.List.{length-append, length-map}
use Rattle.qc_containers.specs.declared.memory.Memory.{Memory}
use Rattle.qc_containers.specs.Name.{is_marker}
use Rattle.qc_containers.specs.Pairs.{lookup}
use Rattle.qc_containers.proofs.Truth.{and_both, and_parts}
use Rattle.qc_data.specs.Encoding.{enc}
use Rattle.qc_data.specs.Outcome.{Mode, Outcome, Value, Halts, and_then}
use Rattle.qc_data.specs.declared.data.Datum.{Datum}
use Rattle.qc_data.specs.declared.data.Datum.TheOpen.{Datum-F}
use Rattle.qc_data.specs.declared.data.Datum.TheViews.{out-Datum}
use Rattle.qc_data.specs.declared.data.Datum.TheFolds.{map-Datum}
use Rattle.qc_data.specs.declared.data.Datum.TheVariants.{Bool as Truth}
use Rattle.qc_data.specs.declared.data.Json.{Json}
use Rattle.qc_data.specs.declared.data.Json.TheVariants as J
use Rattle.qc_ops.specs.Operands.{found, rec_at}
use Rattle.qc_ops.specs.Operators.{binary, unary}
use Rattle.qc_ops.specs.Sides.{by_side, side_at}
use Rattle.qc_ops.specs.declared.op.Binary.{Binary}
use Rattle.qc_ops.specs.declared.op.Binary.TheVariants as two
use Rattle.qc_ops.specs.declared.op.Unary.{Unary}
use Rattle.qc_ops.specs.declared.op.Unary.TheVariants as one
use Rattle.qc_types.specs.Classes.{Defs}
use Rattle.qc_types.specs.Schemas.{WorldOf, fields_at}
use Rattle.qc_rt.specs.Laws.{HasClasses, arguments1, function1, function2, plain, plain_step}
use Rattle.qc_rt.specs.Runtime.{runtime}
use Rattle.qc_rt.specs.Table.{arguments_of}
use Rattle.qc_rt.specs.declared.function.Rt.{Rt}
use Rattle.qc_rt.specs.declared.function.Rt.TheVariants as rt
use Rattle.qc_rt.proofs.Encoding.{encodes1, encodes2}
use Rattle.qc_rt.proofs.PlainData.{Keeps, binary_keeps, unary_keeps}
use Rattle.qc_rt.proofs.PlainLaws.{plain-Bool, plain-roll}
use Rattle.qc_data.proofs.Layers.{roll-out}
use Rattle.qc_rt.proofs.Sides.{isleft_encoded, payload_encoded}
use Rattle.qc_imp.specs.declared.tree.ImpExpr.{ImpExpr}
use Rattle.qc_imp.specs.declared.tree.ImpExpr.TheVariants as tree
use Rattle.qc_imp.specs.Meaning as imp
use Rattle.qc_imp.specs.WellFormed as rules
use Rattle.qc_js.specs.Held.{all_true}
use Rattle.qc_js.specs.Meaning as json
use Rattle.qc_js.specs.WellFormed as scopes
use Rattle.qc_js.specs.declared.tree.Expr.{Expr}
use Rattle.qc_js.specs.declared.tree.Expr.TheVariants as js
use Rattle.qc_to_js.specs.inner.Cells.{PlainStore, store_json}
use Rattle.qc_to_js.specs.inner.Kept.{Holds, IsEncoded, IsExpr, IsSetting, Plain}
use Rattle.qc_to_js.specs.inner.Written.{IsCall, WritesAll, WritesDatum}
use Rattle.qc_to_js.proofs.DataForms as forms
use Rattle.qc_to_js.proofs.JsonForms as written
use Rattle.qc_to_js.proofs.Outcomes.{related_then, related_as}
use Rattle.qc_to_js.proofs.Scopes.{reads_too}
use Rattle.qc_to_js.proofs.Stores.{variable_read}
use Rattle.qc_to_js.proofs.Writing.{as_many, same_numbers, with_last}

-- ---- leaves

pub variable_kept : (c : Defs) (x : ℕ) → IsExpr c (tree.Var x) (js.Var x)
variable_kept c x = record {
  values = λ m w st set p.
      related_as Plain enc (found (imp.value_in (imp.cell_of x st))) (imp.expr m w (tree.Var x) st)
      (json.found (json.value_in (json.cell_of x (store_json st))))
      (json.expr m (enc w.datum) (js.Var x) (store_json st))
      (forms.expr-Var m w st x) (written.expr-Var m (enc w.datum) (store_json st) x) (variable_read x st p);
  fits = λ s t mirrors fits.
      written.fits-Var t x ∙ ap scopes.may_read (mirrors x)
      ∙ reads_too (rules.class_of x s) (sym (forms.fits-Var s x) ∙ fits);
  not_bare = written.bare-Var x;
}

pub constant_kept : (c : Defs) (d : Datum) (made : Expr) → WritesDatum d made → IsExpr c (tree.Const d) made
constant_kept c d made h = record {
  values = λ m w st set p.
      related_as Plain enc (Value d) (imp.expr m w (tree.Const d) st) (Value (enc d))
      (json.expr m (enc w.datum) made (store_json st)) (forms.expr-Const m w st d)
      (h.written.value m (enc w.datum) (store_json st)) (h.is_plain, refl);
  fits = λ s t mirrors fits. h.written.fits t;
  not_bare = h.not_bare;
}

-- ---- calls

bind_value : {A B C : Type 0} (o : Outcome A) (f : A → B) (g : B → Outcome C)
    → and_then (and_then o (λ a. Value (f a))) g ≡ and_then o (λ a. g (f a))
bind_value (Value a) f g = refl
bind_value (Halts why) f g = refl

-- the arguments fit where the last one does
last_fits : (t : scopes.Scope) (js : List Json) (es : List Expr) (last : Expr) → WritesAll js es
    → scopes.expr_fits t last ≡ true → all_true (map (scopes.expr_fits t) (es ++ last ∷ [])) ≡ true
last_fits t [] [] last h k = and_both (scopes.expr_fits t last) true k refl
last_fits t [] (x ∷ es) last h k = absurd h
last_fits t (j ∷ js) [] last h k = absurd h
last_fits t (j ∷ js) (x ∷ es) last h k =
    and_both (scopes.expr_fits t x) (all_true (map (scopes.expr_fits t) (es ++ last ∷ []))) (h.0.fits t)
    (last_fits t js es last h.1 k)

-- a call of written parameters and an expression, by what the function does to encodings
module _ (c : Defs) (f : Rt) (before : List Json) (parameters : List Expr) (writes : WritesAll before parameters)
    (count : length before + 1 ≡ arguments_of f) (e a : ImpExpr) (made : Expr) (of : IsExpr c a made)
    (g : Mode → WorldOf → Datum → Outcome Datum)
    (means : (m : Mode) (w : WorldOf) (st : imp.Store) → imp.expr m w e st ≡ and_then (imp.expr m w a st) (g m w))
    (encodes : (m : Mode) (w : WorldOf) (d : Datum) → IsSetting c w → Plain d
    → IsEncoded (g m w d) (runtime m f (before ++ enc d ∷ [])))
    (fit : (s : rules.Scope) → rules.fits_expr e s ≡ true → rules.fits_expr a s ≡ true) where
  called_value : (m : Mode) (w : WorldOf) (st : imp.Store) → IsSetting c w → PlainStore st
      → IsEncoded (imp.expr m w e st) (json.expr m (enc w.datum) (js.Call f (parameters ++ made ∷ [])) (store_json st))
  called_value m w st set p =
      let arguments : json.expr m (enc w.datum) (js.Call f (parameters ++ made ∷ [])) (store_json st)
      ≡ and_then (json.expr m (enc w.datum) made (store_json st)) (λ j. runtime m f (before ++ j ∷ [])) =
      written.expr-Call m (enc w.datum) (store_json st) f (parameters ++ made ∷ [])
      ∙ ap (λ o. and_then o (runtime m f)) (with_last m (enc w.datum) (store_json st) before parameters made writes)
      ∙ bind_value (json.expr m (enc w.datum) made (store_json st)) (λ j. before ++ j ∷ []) (runtime m f) in
      related_as Plain enc (and_then (imp.expr m w a st) (g m w)) (imp.expr m w e st)
      (and_then (json.expr m (enc w.datum) made (store_json st)) (λ j. runtime m f (before ++ j ∷ [])))
      (json.expr m (enc w.datum) (js.Call f (parameters ++ made ∷ [])) (store_json st)) (means m w st) arguments
      (related_then Plain enc Plain enc (imp.expr m w a st) (json.expr m (enc w.datum) made (store_json st)) (g m w)
      (λ j. runtime m f (before ++ j ∷ [])) (of.values m w st set p) (λ d h. encodes m w d set h))

  pub call_kept : IsExpr c e (js.Call f (parameters ++ made ∷ []))
  call_kept = record {
    values = called_value;
    fits = λ s t mirrors h.
        written.fits-Call t f (parameters ++ made ∷ [])
        ∙ and_both (length (map (scopes.expr_fits t) (parameters ++ made ∷ [])) == arguments_of f)
        (all_true (map (scopes.expr_fits t) (parameters ++ made ∷ [])))
        (same_numbers (length (map (scopes.expr_fits t) (parameters ++ made ∷ []))) (arguments_of f)
        (length-map (parameters ++ made ∷ []) (scopes.expr_fits t) ∙ length-append parameters (made ∷ [])
        ∙ ap (λ n. n + 1) (as_many before parameters writes) ∙ count))
        (last_fits t before parameters made writes (of.fits s t mirrors (fit s h)));
    not_bare = written.bare-Call f (parameters ++ made ∷ []);
  }

-- ---- operators

keeps_holds : (o : Outcome Datum) → Keeps o → Holds Plain o
keeps_holds (Value d) h = h
keeps_holds (Halts why) h = tt

-- each operator has as many parameters as its function
parameter_count : (op : Unary) (classes : List (List ℕ))
    → length (arguments1 classes op) + 1 ≡ arguments_of (function1 op)
parameter_count one.Not classes = refl
parameter_count one.Neg classes = refl
parameter_count one.Abs classes = refl
parameter_count (one.DivBy k) classes = refl
parameter_count (one.ModBy k) classes = refl
parameter_count one.Count classes = refl
parameter_count one.Sum classes = refl
parameter_count one.Min classes = refl
parameter_count one.Max classes = refl
parameter_count one.Avg classes = refl
parameter_count one.Element classes = refl
parameter_count one.Flatten classes = refl
parameter_count one.Distinct classes = refl
parameter_count one.Single classes = refl
parameter_count (one.Rec name) classes = refl
parameter_count (one.Dot name) classes = refl
parameter_count (one.Project names) classes = refl
parameter_count one.Left classes = refl
parameter_count one.Right classes = refl
parameter_count (one.Brand name) classes = refl
parameter_count one.Unbrand classes = refl
parameter_count (one.Cast name) classes = refl
parameter_count (one.Order keys) classes = refl
parameter_count (one.Group g names) classes = refl
parameter_count (one.Like pattern) classes = refl

operand_count : (op : Binary) → arguments_of (function2 op) ≡ 2
operand_count two.Eq = refl
operand_count two.Lt = refl
operand_count two.Le = refl
operand_count two.And = refl
operand_count two.Or = refl
operand_count two.Add = refl
operand_count two.Sub = refl
operand_count two.Mul = refl
operand_count two.Least = refl
operand_count two.Greatest = refl
operand_count two.Union = refl
operand_count two.Except = refl
operand_count two.Intersect = refl
operand_count two.Member = refl
operand_count two.Cat = refl
operand_count two.Merge = refl
operand_count two.Glue = refl

pub one_kept : (c : Defs) (op : Unary) (a : ImpExpr) (made call : Expr) → IsExpr c a made → IsCall c op made call
    → IsExpr c (tree.Unary op a) call
one_kept c op a made call of h =
    let p = h.are_parameters in
    rw (h.is_call) (call_kept c (function1 op) (arguments1 p.classes op) h.before p.written
    (parameter_count op p.classes) (tree.Unary op a) a made of (λ m w. unary m w.classes op)
    (λ m w st. forms.expr-Unary m w st op a)
    (λ m w d set is. (
      keeps_holds (unary m w.classes op d) (unary_keeps m w.classes op d p.names is),
      encodes1 m w.classes op p.classes d p.names
          (subst (λ cs. HasClasses cs op p.classes) (sym set.classes_are) p.are_classes) is,
    ))
    (λ s h. sym (forms.fits-Unary s op a) ∙ h))

both_values : (o p : Outcome Json) (g : List Json → Outcome Json)
    → and_then (and_then o (λ i. and_then (and_then p (λ j. and_then (Value []) (λ js. Value (j ∷ js))))
    (λ js. Value (i ∷ js)))) g
    ≡ and_then o (λ i. and_then p (λ j. g (i ∷ j ∷ [])))
both_values (Value i) (Value j) g = refl
both_values (Value i) (Halts why) g = refl
both_values (Halts why) p g = refl

-- two values
module _ (c : Defs) (op : Binary) (a b : ImpExpr) (first second : Expr) (of : IsExpr c a first)
    (of' : IsExpr c b second)
  where
    two_values : (m : Mode) (w : Json) (st : json.Store)
        → json.expr m w (js.Call (function2 op) (first ∷ second ∷ [])) st
        ≡ and_then (json.expr m w first st)
        (λ i. and_then (json.expr m w second st) (λ j. runtime m (function2 op) (i ∷ j ∷ [])))
    two_values m w st =
        written.expr-Call m w st (function2 op) (first ∷ second ∷ [])
        ∙ both_values (json.expr m w first st) (json.expr m w second st) (runtime m (function2 op))

    pub two_kept : IsExpr c (tree.Binary op a b) (js.Call (function2 op) (first ∷ second ∷ []))
    two_kept = record {
      values = λ m w st set p.
          related_as Plain enc
          (and_then (imp.expr m w a st) (λ u. and_then (imp.expr m w b st) (λ v. binary m op u v)))
          (imp.expr m w (tree.Binary op a b) st)
          (and_then (json.expr m (enc w.datum) first (store_json st))
          (λ i. and_then (json.expr m (enc w.datum) second (store_json st))
          (λ j. runtime m (function2 op) (i ∷ j ∷ []))))
          (json.expr m (enc w.datum) (js.Call (function2 op) (first ∷ second ∷ [])) (store_json st))
          (forms.expr-Binary m w st op a b) (two_values m (enc w.datum) (store_json st))
          (related_then Plain enc Plain enc (imp.expr m w a st) (json.expr m (enc w.datum) first (store_json st))
          (λ u. and_then (imp.expr m w b st) (λ v. binary m op u v))
          (λ i. and_then (json.expr m (enc w.datum) second (store_json st))
          (λ j. runtime m (function2 op) (i ∷ j ∷ [])))
          (of.values m w st set p)
          (λ u is. related_then Plain enc Plain enc (imp.expr m w b st)
          (json.expr m (enc w.datum) second (store_json st))
          (λ v. binary m op u v) (λ j. runtime m (function2 op) (enc u ∷ j ∷ [])) (of'.values m w st set p)
          (λ v is'. (keeps_holds (binary m op u v) (binary_keeps m op u v is is'), encodes2 m op u v is is'))));
      fits = λ s t mirrors h.
          let p = and_parts (rules.fits_expr a s) (rules.fits_expr b s) (sym (forms.fits-Binary s op a b) ∙ h) in
          written.fits-Call t (function2 op) (first ∷ second ∷ [])
          ∙ rw (operand_count op, of.fits s t mirrors p.0, of'.fits s t mirrors p.1) refl;
      not_bare = written.bare-Call (function2 op) (first ∷ second ∷ []);
    }

-- ---- sides

side_plain : (f g : Datum → Outcome Datum) → ((d : Datum) → Plain d → Holds Plain (f d))
    → ((d : Datum) → Plain d → Holds Plain (g d)) → (x : Datum-F Datum)
    → plain_step (map-Datum Datum Bool plain x) ≡ true
    → Holds Plain (side_at f g x)
side_plain f g p q (Datum-F.Left d) h = p d h
side_plain f g p q (Datum-F.Right d) h = q d h
side_plain f g p q Datum-F.Unit h = tt
side_plain f g p q (Datum-F.Bool b) h = tt
side_plain f g p q (Datum-F.Int n) h = tt
side_plain f g p q (Datum-F.Text s) h = tt
side_plain f g p q (Datum-F.Coll ds) h = tt
side_plain f g p q (Datum-F.Rec ps) h = tt
side_plain f g p q (Datum-F.Brand n d) h = tt

pub plain_at : (d : Datum) → Plain d → plain_step (map-Datum Datum Bool plain (out-Datum d)) ≡ true
plain_at d h = sym (plain-roll (out-Datum d)) ∙ ap plain (roll-out d) ∙ h

pub isleft_kept : (c : Defs) (a : ImpExpr) (made : Expr) → IsExpr c a made
    → IsExpr c (tree.IsLeft a) (js.Call rt.IsLeft (made ∷ []))
isleft_kept c a made of =
    call_kept c rt.IsLeft [] [] tt refl (tree.IsLeft a) a made of
    (λ m w. by_side (λ d. Value (Truth true)) (λ d. Value (Truth false))) (λ m w st. forms.expr-IsLeft m w st a)
    (λ m w d set h. (
      side_plain (λ d. Value (Truth true)) (λ d. Value (Truth false)) (λ d p. plain-Bool true)
          (λ d p. plain-Bool false) (out-Datum d) (plain_at d h),
      isleft_encoded m d h,
    ))
    (λ s h. sym (forms.fits-IsLeft s a) ∙ h)

pub payload_kept : (c : Defs) (a : ImpExpr) (made : Expr) → IsExpr c a made
    → IsExpr c (tree.Payload a) (js.Call rt.Payload (made ∷ []))
payload_kept c a made of =
    call_kept c rt.Payload [] [] tt refl (tree.Payload a) a made of (λ m w. by_side (λ d. Value d) (λ d. Value d))
    (λ m w st. forms.expr-Payload m w st a)
    (λ m w d set h. (
      side_plain (λ d. Value d) (λ d. Value d) (λ d p. p) (λ d p. p) (out-Datum d) (plain_at d h),
      payload_encoded m d h,
    ))
    (λ s h. sym (forms.fits-Payload s a) ∙ h)

-- ---- globals

-- a global is the field of its name, where the world's datum is a record
global_at : (n : List ℕ) (x : Datum-F Datum)
    → found (lookup n (fields_at x)) ≡ and_then (rec_at x) (λ fields. found (lookup n fields))
global_at n (Datum-F.Rec fs) = refl
global_at n Datum-F.Unit = refl
global_at n (Datum-F.Bool b) = refl
global_at n (Datum-F.Int k) = refl
global_at n (Datum-F.Text s) = refl
global_at n (Datum-F.Coll ds) = refl
global_at n (Datum-F.Left d) = refl
global_at n (Datum-F.Right d) = refl
global_at n (Datum-F.Brand m d) = refl

pub global_kept : (c : Defs) (n : List ℕ) → is_marker n ≡ false
    → IsExpr c (tree.Global n) (js.Call rt.Dot (js.Text n ∷ js.World ∷ []))
global_kept c n name = record {
  values = λ m w st set p.
      let field : imp.expr m w (tree.Global n) st ≡ unary m w.classes (one.Dot n) w.datum =
      forms.expr-Global m w st n ∙ global_at n (out-Datum w.datum) in
      let call : json.expr m (enc w.datum) (js.Call rt.Dot (js.Text n ∷ js.World ∷ [])) (store_json st)
      ≡ runtime m rt.Dot (J.Text n ∷ enc w.datum ∷ []) =
      written.expr-Call m (enc w.datum) (store_json st) rt.Dot (js.Text n ∷ js.World ∷ [])
      ∙ rw (
        written.expr-Text m (enc w.datum) (store_json st) n,
        written.expr-World m (enc w.datum) (store_json st),
      ) refl in
      related_as Plain enc (unary m w.classes (one.Dot n) w.datum) (imp.expr m w (tree.Global n) st)
      (runtime m rt.Dot (J.Text n ∷ enc w.datum ∷ []))
      (json.expr m (enc w.datum) (js.Call rt.Dot (js.Text n ∷ js.World ∷ [])) (store_json st)) field call (
        keeps_holds (unary m w.classes (one.Dot n) w.datum)
            (unary_keeps m w.classes (one.Dot n) w.datum name set.is_plain),
        encodes1 m w.classes (one.Dot n) [] w.datum name tt set.is_plain,
      );
  fits = λ s t mirrors h.
      written.fits-Call t rt.Dot (js.Text n ∷ js.World ∷ []) ∙ rw (written.fits-Text t n, written.fits-World t) refl;
  not_bare = written.bare-Call rt.Dot (js.Text n ∷ js.World ∷ []);
}

-- ---- what calls answer

-- an answer for an expression that is another
made_as : (c : Defs) (e f : ImpExpr) (P : Expr → Type 0) (r : Result Expr Memory) → e ≡ f → IfOk r P
    → ((made : Expr) → P made → IsExpr c f made) → IfOk r (λ made. IsExpr c e made)
made_as c e f P (Ok made) is h k = rw is (k made h)
made_as c e f P (Err x) is h k = tt

module _ (c : Defs) (e : ImpExpr) (r : Result Expr Memory) where
  pub constant_made : (d : Datum) → e ≡ tree.Const d → IfOk r (λ made. WritesDatum d made)
      → IfOk r (λ made. IsExpr c e made)
  constant_made d is h = made_as c e (tree.Const d) (λ made. WritesDatum d made) r is h (constant_kept c d)

  pub global_made : (n : List ℕ) (before : List Expr) → e ≡ tree.Global n → before ≡ js.Text n ∷ []
      → is_marker n ≡ false → IfOk r (λ made. made ≡ js.Call rt.Dot (before ++ js.World ∷ []))
      → IfOk r (λ made. IsExpr c e made)
  global_made n before is texts name h =
      made_as c e (tree.Global n) (λ made. made ≡ js.Call rt.Dot (before ++ js.World ∷ [])) r is h
      (λ made same. rw (same, texts) (global_kept c n name))

  -- of parts
  module _ (a a' : ImpExpr) (same : a' ≡ a) (first : Expr) (of : IsExpr c a' first) where
    abbrev first_kept : IsExpr c a first
    first_kept = subst (λ x. IsExpr c x first) same of

    pub one_made : (op : Unary) → e ≡ tree.Unary op a → IfOk r (λ made. IsCall c op first made)
        → IfOk r (λ made. IsExpr c e made)
    one_made op is h =
        made_as c e (tree.Unary op a) (λ made. IsCall c op first made) r is h
        (λ made call. one_kept c op a first made first_kept call)

    pub isleft_made : (before : List Expr) → e ≡ tree.IsLeft a → before ≡ []
        → IfOk r (λ made. made ≡ js.Call rt.IsLeft (before ++ first ∷ [])) → IfOk r (λ made. IsExpr c e made)
    isleft_made before is none h =
        made_as c e (tree.IsLeft a) (λ made. made ≡ js.Call rt.IsLeft (before ++ first ∷ [])) r is h
        (λ made call. rw (call, none) (isleft_kept c a first first_kept))

    pub payload_made : (before : List Expr) → e ≡ tree.Payload a → before ≡ []
        → IfOk r (λ made. made ≡ js.Call rt.Payload (before ++ first ∷ [])) → IfOk r (λ made. IsExpr c e made)
    payload_made before is none h =
        made_as c e (tree.Payload a) (λ made. made ≡ js.Call rt.Payload (before ++ first ∷ [])) r is h
        (λ made call. rw (call, none) (payload_kept c a first first_kept))

    pub two_made : (op : Binary) (b b' : ImpExpr) (second : Expr) → e ≡ tree.Binary op a b → b' ≡ b
        → IsExpr c b' second → IfOk r (λ made. made ≡ js.Call (function2 op) (first ∷ second ∷ []))
        → IfOk r (λ made. IsExpr c e made)
    two_made op b b' second is same' of' h =
        made_as c e (tree.Binary op a b) (λ made. made ≡ js.Call (function2 op) (first ∷ second ∷ [])) r is h
        (λ made call. rw call (two_kept c op a b first second first_kept (subst (λ x. IsExpr c x second) same' of')))
