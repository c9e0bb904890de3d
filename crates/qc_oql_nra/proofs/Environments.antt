-- The environment as the record of what is bound.
use Rattle.std.proofs.Common.{◌≡◌, ℕ, Bool, true, false, ◌||◌, cond, List, [], ◌∷◌, Option, Some, None, refl, sym, ap}
use Rattle.std.proofs.Common.{◌∙◌, subst}
use Rattle.std.specs.Prelude.{is_some}
use Rattle.std.specs.Str.{bytes_eq}
use Rattle.qc_containers.specs.Pairs.{lookup}
use Rattle.qc_containers.specs.Rising.{Rising}
use Rattle.qc_data.proofs.KindLaws.{out-Rec}
use Rattle.qc_data.proofs.Outcomes.{kept_same}
use Rattle.qc_data.specs.Outcome.{Mode, Outcome, Value, and_then, IsKept}
use Rattle.qc_data.specs.declared.data.Datum.{Datum}
use Rattle.qc_data.specs.declared.data.Datum.TheVariants.{Rec}
use Rattle.qc_nra.specs.declared.tree.Nra.{Nra}
use Rattle.qc_nra.specs.declared.tree.Nra.TheVariants as tree
use Rattle.qc_nra.specs.Meaning.{nra}
use Rattle.qc_ops.proofs.Overlays.{Rising-over}
use Rattle.qc_ops.specs.declared.op.Unary.TheVariants as one
use Rattle.qc_ops.specs.declared.op.Binary.TheVariants as two
use Rattle.qc_ops.specs.Operands.{found}
use Rattle.qc_ops.specs.Operators.{unary, binary}
use Rattle.qc_ops.specs.Records.{concatenation, field, over}
use Rattle.qc_types.specs.Schemas.{WorldOf, global}
use Rattle.qc_typing.proofs.RecordValues.{lookup-both}
use Rattle.qc_typing.proofs.RisingLaws.{or_else}
use Rattle.qc_oql_tree.specs.Bindings.{Bindings, Meaning, or_else_some, value_of}
use Rattle.qc_oql_tree.specs.FormMeanings.{NamedMeaning, bound}
use Rattle.qc_oql_nra.specs.OqlForms.{Scope, Translation, NamedTranslation, is_bound, name_tree, binding, under}
use Rattle.qc_oql_nra.specs.OqlForms.{bound_tree}
use Rattle.qc_oql_nra.proofs.NraForms.{nra-Input, nra-Env, nra-Global, nra-Unary, nra-Binary, nra-EnvComp}

-- the datum is a record with the fields that the bindings are, whose names are the scope
pub record Holds (ns : Scope) (s : Bindings) (d : Datum) : Type 0 where
  pub fields : List (List ℕ × Datum)
  pub is : d ≡ Rec fields
  pub rises : Rising fields
  pub shows : (n : List ℕ) → lookup n fields ≡ lookup n s
  pub scope : (n : List ℕ) → is_bound n ns ≡ is_some (lookup n s)

pub nothing_bound : Holds [] [] (Rec [])
nothing_bound = record { fields = []; is = refl; rises = tt; shows = λ n. refl; scope = λ n. refl }

first_or : {T : Type 0} (b : Bool) (v : T) (o : Option T) → or_else (cond b (Some v) None) o ≡ cond b (Some v) o
first_or true v o = refl
first_or false v o = refl

some_first : {T : Type 0} (b : Bool) (v : T) (o : Option T) → (b || is_some o) ≡ is_some (cond b (Some v) o)
some_first true v o = refl
some_first false v o = refl

-- the fields with one more
abbrev pub with_field : List (List ℕ × Datum) → List ℕ → Datum → List (List ℕ × Datum)
with_field fields name v = over fields ((name, v) ∷ [])

pub holds_more : (ns : Scope) (s : Bindings) (d : Datum) (h : Holds ns s d) (name : List ℕ) (v : Datum)
    → Holds (name ∷ ns) ((name, v) ∷ s) (Rec (with_field h.fields name v))
holds_more ns s d h name v = record {
  fields = with_field h.fields name v;
  is = refl;
  rises = Rising-over h.fields ((name, v) ∷ []) (tt, tt);
  shows = λ n.
      lookup-both n h.fields ((name, v) ∷ []) h.rises ∙ first_or (bytes_eq name n) v (lookup n h.fields)
      ∙ ap (λ o. cond (bytes_eq name n) (Some v) o) (h.shows n);
  scope = λ n. ap (λ b. bytes_eq name n || b) (h.scope n) ∙ some_first (bytes_eq name n) v (lookup n s);
}

pub concatenated : (fs gs : List (List ℕ × Datum)) → concatenation (Rec fs) (Rec gs) ≡ Value (Rec (over fs gs))
concatenated fs gs = rw (out-Rec fs, out-Rec gs) refl

pub with_one : (ns : Scope) (s : Bindings) (d : Datum) (h : Holds ns s d) (name : List ℕ) (v : Datum)
    → concatenation d (Rec ((name, v) ∷ [])) ≡ Value (Rec (with_field h.fields name v))
with_one ns s d h name v =
    ap (λ e. concatenation e (Rec ((name, v) ∷ []))) h.is ∙ concatenated h.fields ((name, v) ∷ [])

pub field_is : (name : List ℕ) (fs : List (List ℕ × Datum)) → field name (Rec fs) ≡ found (lookup name fs)
field_is name fs = rw (out-Rec fs) refl

-- ---- outcomes that are values

pub go_on : {A B : Type 0} (o : Outcome A) (f : A → Outcome B) (a : A) → o ≡ Value a → and_then o f ≡ f a
go_on o f a h = rw h refl

pub go_both : {A B C : Type 0} (o : Outcome A) (p : Outcome B) (f : A → B → Outcome C) (a : A) (b : B) → o ≡ Value a
    → p ≡ Value b → and_then o (λ x. and_then p (λ y. f x y)) ≡ f a b
go_both o p f a b h k = rw (h, k) refl

-- ---- trees

module _ (m : Mode) (w : WorldOf) where
  -- at all bindings that an environment holds, the tree keeps the value, whatever the input is
  abbrev pub Same : Meaning → Translation → Type 0
  Same a t = (ns : Scope) (s : Bindings) (d : Datum) → Holds ns s d → (i : Datum) → IsKept (a s) (nra m w (t ns) i d)

  -- the same under one name
  abbrev pub SameNamed : NamedMeaning → NamedTranslation → Type 0
  SameNamed a t = (t.0 ≡ a.0) × Same a.1 t.1

  pub binding_is : (ns : Scope) (s : Bindings) (d : Datum) (h : Holds ns s d) (name : List ℕ) (a : Nra) (i v : Datum)
      → nra m w a i d ≡ Value v → nra m w (binding name a) i d ≡ Value (Rec (with_field h.fields name v))
  binding_is ns s d h name a i v e =
      nra-Binary m w two.Cat tree.Env (tree.Unary (one.Rec name) a) i d
      ∙ go_both (nra m w tree.Env i d) (nra m w (tree.Unary (one.Rec name) a) i d) (binary m two.Cat) d
      (Rec ((name, v) ∷ [])) (nra-Env m w i d)
      (nra-Unary m w (one.Rec name) a i d ∙ go_on (nra m w a i d) (unary m w.classes (one.Rec name)) v e)
      ∙ with_one ns s d h name v

  pub under_is : (ns : Scope) (s : Bindings) (d : Datum) (h : Holds ns s d) (name : List ℕ) (a : Nra) (v : Datum)
      → nra m w (under name a) v d ≡ nra m w a v (Rec (with_field h.fields name v))
  under_is ns s d h name a v =
      nra-EnvComp m w a (binding name tree.Input) v d
      ∙ go_on (nra m w (binding name tree.Input) v d) (λ e. nra m w a v e) (Rec (with_field h.fields name v))
      (binding_is ns s d h name tree.Input v v (nra-Input m w v d))

  -- a body with its name bound
  pub same_bound : (a : NamedMeaning) (t : NamedTranslation) → SameNamed a t → (ns : Scope) (s : Bindings) (d : Datum)
      → Holds ns s d → (v : Datum) → IsKept (bound a s v) (nra m w (bound_tree t ns) v d)
  same_bound a t k ns s d h v =
      let body = k.1 (t.0 ∷ ns) ((t.0, v) ∷ s) (Rec (with_field h.fields t.0 v)) (holds_more ns s d h t.0 v) v in
      let named : IsKept (a.1 ((a.0, v) ∷ s)) (nra m w (t.1 (t.0 ∷ ns)) v (Rec (with_field h.fields t.0 v))) =
      subst (λ n. IsKept (a.1 ((n, v) ∷ s)) (nra m w (t.1 (t.0 ∷ ns)) v (Rec (with_field h.fields t.0 v)))) k.0 body in
      subst (IsKept (a.1 ((a.0, v) ∷ s))) (sym (under_is ns s d h t.0 (t.1 (t.0 ∷ ns)) v)) named

  -- ---- names

  name_at : (name : List ℕ) (ns : Scope) (s : Bindings) (d : Datum) (h : Holds ns s d) (i : Datum) (o : Option Datum)
      → lookup name s ≡ o → IsKept (found (or_else_some o (global name w.datum)))
      (nra m w (cond (is_some o) (tree.Unary (one.Dot name) tree.Env) (tree.Global name)) i d)
  name_at name ns s d h i None e =
      subst (IsKept (found (global name w.datum))) (sym (nra-Global m w name i d))
      (kept_same (found (global name w.datum)))
  name_at name ns s d h i (Some v) e =
      nra-Unary m w (one.Dot name) tree.Env i d
      ∙ go_on (nra m w tree.Env i d) (unary m w.classes (one.Dot name)) d (nra-Env m w i d)
      ∙ ap (field name) h.is ∙ field_is name h.fields ∙ ap found (h.shows name ∙ e)

  pub same_name : (name : List ℕ) → Same (value_of w name) (name_tree name)
  same_name name ns s d h i =
      subst (λ b. IsKept (value_of w name s)
      (nra m w (cond b (tree.Unary (one.Dot name) tree.Env) (tree.Global name)) i d)) (sym (h.scope name))
      (name_at name ns s d h i (lookup name s) refl)
