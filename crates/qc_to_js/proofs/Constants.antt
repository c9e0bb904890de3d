-- Data written out are the imp.
use Rattle.std.proofs.Common.{◌≡◌, ◌∙◌, ℕ, ℤ, Bool, true, false, List, [], ◌∷◌, ◌++◌, map, refl, sym, ap, subst}
use Rattle.std.proofs.Common.{append_assoc, append-nil}
use Rattle.std.specs.Prelude.{Err, IfOk, Ok, Result}
use Rattle.std.specs.List.{AllByRecursion}
use Rattle.qc_containers.specs.declared.memory.Memory.{Memory}
use Rattle.qc_containers.specs.Name.{is_name}
use Rattle.qc_containers.specs.Pairs.{put}
use Rattle.qc_containers.specs.Rising.{on_value, Above, Rising}
use Rattle.qc_data.specs.Encoding.{enc, encoded}
use Rattle.qc_data.specs.Facts.{Held}
use Rattle.qc_data.specs.Outcome.{Mode, Value, any_size}
use Rattle.qc_data.specs.declared.data.Datum.{Datum}
use Rattle.qc_data.specs.declared.data.Datum.TheOpen.{Datum-F}
use Rattle.qc_data.specs.declared.data.Datum.TheViews.{roll-Datum}
use Rattle.qc_data.specs.declared.data.Datum.TheFolds.{fold-roll-Datum, map-Datum}
use Rattle.qc_data.specs.declared.data.Datum.TheVariants as D
use Rattle.qc_data.specs.declared.data.Json.{Json}
use Rattle.qc_data.specs.declared.data.Json.TheVariants as J
use Rattle.qc_data.proofs.Encoded.{enc-Unit, enc-Bool, enc-Int, enc-Text, enc-Coll}
use Rattle.qc_data.proofs.FactLaws.{named-Coll}
use Rattle.qc_data.proofs.HeldLaws.{Held-Coll, Held-Rec, Held-Left, Held-Right, Held-Brand, HeldField}
use Rattle.qc_data.proofs.Induction.{every_datum}
use Rattle.qc_ops.specs.Operators.{binary}
use Rattle.qc_ops.specs.Records.{over, put_new}
use Rattle.qc_ops.specs.declared.op.Unary.TheVariants as one
use Rattle.qc_ops.specs.declared.op.Binary.TheVariants as two
use Rattle.qc_ops.proofs.Overlays.{Rising-with_next, after_less, lookup-above}
use Rattle.qc_rt.specs.Laws.{plain}
use Rattle.qc_rt.specs.Runtime.{runtime}
use Rattle.qc_rt.specs.declared.function.Rt.TheVariants as rt
use Rattle.qc_rt.proofs.Encoding.{encodes1, encodes2}
use Rattle.qc_rt.proofs.PlainData.{Keeps, binary_keeps, unary_keeps}
use Rattle.qc_rt.proofs.PlainLaws.{name_unmarked, named_plain, plain-Rec}
use Rattle.qc_rt.proofs.Sides.{nothing_encoded}
use Rattle.qc_js.specs.declared.tree.Expr.{Expr}
use Rattle.qc_js.specs.declared.tree.Expr.TheVariants as tree
use Rattle.qc_js.specs.WellFormed.{is_bare}
use Rattle.qc_to_js.specs.inner.Written.{Writes, WritesAll, WritesDatum, array, constant, constant_step, field}
use Rattle.qc_to_js.specs.inner.Written.{record_from, record_of, truth}
use Rattle.qc_to_js.proofs.JsonForms.{bare-True, bare-False, bare-Null, bare-Int, bare-Text, bare-Call, bare-more}
use Rattle.qc_to_js.proofs.Writing.{writes-Null, writes-Bool, writes-Int, writes-Text, writes-Array, writes-Call}

constant-roll : (x : Datum-F Datum) → constant (roll-Datum x) ≡ constant_step (map-Datum Datum Expr constant x)
constant-roll x = fold-roll-Datum Expr constant_step x

constant-Unit : constant D.Unit ≡ tree.Null
constant-Unit = ap constant (sym D.rolls-Unit) ∙ constant-roll Datum-F.Unit

constant-Bool : (b : Bool) → constant (D.Bool b) ≡ truth b
constant-Bool b = ap constant (sym (D.rolls-Bool b)) ∙ constant-roll (Datum-F.Bool b)

constant-Int : (n : ℤ) → constant (D.Int n) ≡ tree.Int n
constant-Int n = ap constant (sym (D.rolls-Int n)) ∙ constant-roll (Datum-F.Int n)

constant-Text : (t : List ℕ) → constant (D.Text t) ≡ tree.Text t
constant-Text t = ap constant (sym (D.rolls-Text t)) ∙ constant-roll (Datum-F.Text t)

constant-Coll : (ds : List Datum) → constant (D.Coll ds) ≡ array (map constant ds)
constant-Coll ds = ap constant (sym (D.rolls-Coll ds)) ∙ constant-roll (Datum-F.Coll ds)

constant-Rec : (fs : List (List ℕ × Datum)) → constant (D.Rec fs) ≡ record_of (map (on_value constant) fs)
constant-Rec fs = ap constant (sym (D.rolls-Rec fs)) ∙ constant-roll (Datum-F.Rec fs)

constant-Left : (d : Datum) → constant (D.Left d) ≡ tree.Call rt.Left (constant d ∷ [])
constant-Left d = ap constant (sym (D.rolls-Left d)) ∙ constant-roll (Datum-F.Left d)

constant-Right : (d : Datum) → constant (D.Right d) ≡ tree.Call rt.Right (constant d ∷ [])
constant-Right d = ap constant (sym (D.rolls-Right d)) ∙ constant-roll (Datum-F.Right d)

constant-Brand : (n : List ℕ) (d : Datum)
    → constant (D.Brand n d) ≡ tree.Call rt.Brand (tree.Text n ∷ constant d ∷ [])
constant-Brand n d = ap constant (sym (D.rolls-Brand n d)) ∙ constant-roll (Datum-F.Brand n d)

-- ---- by the kind of the datum

-- an expression for the datum, which is not []
abbrev Of : Datum → Expr → Type 0
Of d e = Writes (enc d) e × (is_bare e ≡ false)

abbrev Good : Datum → Type 0
Good d = Held d → Of d (constant d)

written_as : (d : Datum) (j : Json) (made : Expr) → enc d ≡ j → constant d ≡ made → Writes j made → is_bare made ≡ false
    → Of d (constant d)
written_as d j made p q h b = rw (p, q) (h, b)

pub truth_written : (b : Bool) → Writes (J.Bool b) (truth b)
truth_written true = writes-Bool true tree.True refl
truth_written false = writes-Bool false tree.False refl

truth_shown : (b : Bool) → is_bare (truth b) ≡ false
truth_shown true = bare-True
truth_shown false = bare-False

items_written : (ds : List Datum) → AllByRecursion Good ds → AllByRecursion Held ds
    → WritesAll (map enc ds) (map constant ds)
items_written [] h k = tt
items_written (d ∷ ds) h k = ((h.0 k.0).0, items_written ds h.1 k.1)

-- the function `flatten` of no arrays
flattened_none : (m : Mode) → runtime m rt.Flatten (J.Array [] ∷ []) ≡ Value (J.Array [])
flattened_none m =
    ap (λ j. runtime m rt.Flatten (j ∷ [])) (sym (enc-Coll []))
    ∙ encodes1 m [] one.Flatten [] (D.Coll []) tt tt (named_plain (D.Coll []) (named-Coll []))
    ∙ rw (D.outs-Coll []) (ap Value (enc-Coll []))

array_written : (js : List Json) (es : List Expr) → WritesAll js es
    → Writes (J.Array js) (array es) × (is_bare (array es) ≡ false)
array_written [] [] h = (
  writes-Call rt.Flatten (J.Array [] ∷ []) (tree.Array [] ∷ []) (J.Array []) (writes-Array [] [] tt, tt) refl
      flattened_none,
  bare-Call rt.Flatten (tree.Array [] ∷ []),
)
array_written [] (e ∷ es) h = absurd h
array_written (j ∷ js) [] h = absurd h
array_written (j ∷ js) (e ∷ es) h = (writes-Array (j ∷ js) (e ∷ es) h, bare-more e es)

-- ---- records

abbrev Fields : Type 0
Fields = List (List ℕ × Datum)

-- a field put before those whose names come after its own
put_first : (n : List ℕ) (d : Datum) (fs : Fields) → Above n fs → put n d fs ≡ (n, d) ∷ fs
put_first n d [] a = refl
put_first n d (f ∷ fs) a = rw (after_less n f.0 a.0) refl

put_new_first : (n : List ℕ) (d : Datum) (fs : Fields) → Above n fs → put_new n d fs ≡ (n, d) ∷ fs
put_new_first n d fs a = rw (lookup-above n fs a) (put_first n d fs a)

-- a field whose name comes after all others
put_last : (fs : Fields) (f : List ℕ × Datum) → Rising (fs ++ f ∷ []) → over fs (f ∷ []) ≡ fs ++ f ∷ []
put_last [] f r = refl
put_last (g ∷ fs) f r = ap (put_new g.0 g.1) (put_last fs f r.1) ∙ put_new_first g.0 g.1 (fs ++ f ∷ []) r.0

plain_of : (d : Datum) → Held d → plain d ≡ true
plain_of d h = named_plain d h.names

module _ (f : List ℕ × Datum) (held : HeldField f) where
  field_plain : plain (D.Rec (f ∷ [])) ≡ true
  field_plain = unary_keeps any_size [] (one.Rec f.0) f.1 (name_unmarked f.0 held.0) (plain_of f.1 held.1)

  field_written : (e : Expr) → Writes (enc f.1) e → Writes (enc (D.Rec (f ∷ []))) (field (f.0, e))
  field_written e h =
      writes-Call rt.Rec (J.Text f.0 ∷ enc f.1 ∷ []) (tree.Text f.0 ∷ e ∷ []) (enc (D.Rec (f ∷ [])))
      (writes-Text f.0, (h, tt)) refl
      (λ m. encodes1 m [] (one.Rec f.0) [] f.1 (name_unmarked f.0 held.0) tt (plain_of f.1 held.1))

  module _ (done : Fields) (rises : Rising (done ++ f ∷ [])) where
    both_are : (m : Mode) → binary m two.Cat (D.Rec done) (D.Rec (f ∷ [])) ≡ Value (D.Rec (done ++ f ∷ []))
    both_are m = rw (D.outs-Rec done, D.outs-Rec (f ∷ [])) (ap (λ fs. Value (D.Rec fs)) (put_last done f rises))

    both_plain : plain (D.Rec done) ≡ true → plain (D.Rec (done ++ f ∷ [])) ≡ true
    both_plain h =
        subst Keeps (both_are any_size) (binary_keeps any_size two.Cat (D.Rec done) (D.Rec (f ∷ [])) h field_plain)

    both_written : (e e' : Expr) → plain (D.Rec done) ≡ true → Writes (enc (D.Rec done)) e → Writes (enc f.1) e'
        → Writes (enc (D.Rec (done ++ f ∷ []))) (tree.Call rt.Cat (e ∷ field (f.0, e') ∷ []))
    both_written e e' p h k =
        writes-Call rt.Cat (enc (D.Rec done) ∷ enc (D.Rec (f ∷ [])) ∷ []) (e ∷ field (f.0, e') ∷ [])
        (enc (D.Rec (done ++ f ∷ []))) (h, (field_written e' k, tt)) refl
        (λ m. encodes2 m two.Cat (D.Rec done) (D.Rec (f ∷ [])) p field_plain ∙ ap encoded (both_are m))

-- the fields one by one
from_written : (done fs : Fields) (e : Expr) → AllByRecursion (λ f. Good f.1) fs → AllByRecursion HeldField fs
    → Rising (done ++ fs) → plain (D.Rec done) ≡ true → Writes (enc (D.Rec done)) e → is_bare e ≡ false
    → Writes (enc (D.Rec (done ++ fs))) (record_from e (map (on_value constant) fs))
    × (is_bare (record_from e (map (on_value constant) fs)) ≡ false)
from_written done [] e h k r p w b = (subst (λ l. Writes (enc (D.Rec l)) e) (sym (append-nil done)) w, b)
from_written done (f ∷ fs) e h k r p w b =
    let rises : Rising ((done ++ f ∷ []) ++ fs) = subst Rising (sym (append_assoc done (f ∷ []) fs)) r in
    let first : Rising (done ++ f ∷ []) = Rising-with_next done fs f r in
    let made = tree.Call rt.Cat (e ∷ field (f.0, constant f.1) ∷ []) in
    let more = from_written (done ++ f ∷ []) fs made h.1 k.1 rises (both_plain f k.0 done first p)
    (both_written f k.0 done first e (constant f.1) p w (h.0 k.0.1).0)
    (bare-Call rt.Cat (e ∷ field (f.0, constant f.1) ∷ [])) in (
      subst (λ l. Writes (enc (D.Rec l)) (record_from made (map (on_value constant) fs)))
          (append_assoc done (f ∷ []) fs) more.0,
      more.1,
    )

nothing_written : Writes (enc (D.Rec [])) (tree.Call rt.Nothing [])
nothing_written = writes-Call rt.Nothing [] [] (enc (D.Rec [])) tt refl nothing_encoded

record_written : (fs : Fields) → AllByRecursion (λ f. Good f.1) fs → AllByRecursion HeldField fs → Rising fs
    → Writes (enc (D.Rec fs)) (record_of (map (on_value constant) fs))
    × (is_bare (record_of (map (on_value constant) fs)) ≡ false)
record_written fs h k r =
    from_written [] fs (tree.Call rt.Nothing []) h k r (plain-Rec []) nothing_written (bare-Call rt.Nothing [])

-- ---- sides and values of classes

left_written : (d : Datum) (e : Expr) → Held d → Writes (enc d) e → Writes (enc (D.Left d)) (tree.Call rt.Left (e ∷ []))
left_written d e held h =
    writes-Call rt.Left (enc d ∷ []) (e ∷ []) (enc (D.Left d)) (h, tt) refl
    (λ m. encodes1 m [] one.Left [] d tt tt (plain_of d held))

right_written : (d : Datum) (e : Expr) → Held d → Writes (enc d) e
    → Writes (enc (D.Right d)) (tree.Call rt.Right (e ∷ []))
right_written d e held h =
    writes-Call rt.Right (enc d ∷ []) (e ∷ []) (enc (D.Right d)) (h, tt) refl
    (λ m. encodes1 m [] one.Right [] d tt tt (plain_of d held))

brand_written : (n : List ℕ) (d : Datum) (e : Expr) → is_name n ≡ true → Held d → Writes (enc d) e
    → Writes (enc (D.Brand n d)) (tree.Call rt.Brand (tree.Text n ∷ e ∷ []))
brand_written n d e name held h =
    writes-Call rt.Brand (J.Text n ∷ enc d ∷ []) (tree.Text n ∷ e ∷ []) (enc (D.Brand n d))
    (writes-Text n, (h, tt)) refl
    (λ m. encodes1 m [] (one.Brand n) [] d (name_unmarked n name) tt (plain_of d held))

every_constant : (d : Datum) → Good d
every_constant = every_datum Good record {
  unit = λ h. written_as D.Unit J.Null tree.Null enc-Unit constant-Unit writes-Null bare-Null;
  bool = λ b h. written_as (D.Bool b) (J.Bool b) (truth b) (enc-Bool b) (constant-Bool b) (truth_written b)
      (truth_shown b);
  int = λ n h. written_as (D.Int n) (J.Int n) (tree.Int n) (enc-Int n) (constant-Int n) (writes-Int n) (bare-Int n);
  text = λ t h. written_as (D.Text t) (J.Text t) (tree.Text t) (enc-Text t) (constant-Text t) (writes-Text t)
      (bare-Text t);
  coll = λ ds all h.
      let w = array_written (map enc ds) (map constant ds) (items_written ds all ((Held-Coll ds).0 h)) in
      written_as (D.Coll ds) (J.Array (map enc ds)) (array (map constant ds)) (enc-Coll ds) (constant-Coll ds) w.0 w.1;
  rec = λ fs all h.
      let w = record_written fs all ((Held-Rec fs).0 h).1 ((Held-Rec fs).0 h).0 in
      rw (constant-Rec fs) w;
  left = λ d of h.
      rw (constant-Left d) (
        left_written d (constant d) ((Held-Left d).0 h) (of ((Held-Left d).0 h)).0,
        bare-Call rt.Left (constant d ∷ []),
      );
  right = λ d of h.
      rw (constant-Right d) (
        right_written d (constant d) ((Held-Right d).0 h) (of ((Held-Right d).0 h)).0,
        bare-Call rt.Right (constant d ∷ []),
      );
  brand = λ n d of h.
      let p = (Held-Brand n d).0 h in
      rw (constant-Brand n d) (
        brand_written n d (constant d) p.0 p.1 (of p.1).0,
        bare-Call rt.Brand (tree.Text n ∷ constant d ∷ []),
      );
}

-- a datum that code holds, written out
constant_written : (d : Datum) (made : Expr) → Held d → made ≡ constant d → WritesDatum d made
constant_written d made h is =
    let w = every_constant d h in
    rw is record { written = w.0; is_plain = plain_of d h; not_bare = w.1 }

pub constant_all : (d : Datum) (r : Result Expr Memory) → Held d → IfOk r (λ made. made ≡ constant d)
    → IfOk r (λ made. WritesDatum d made)
constant_all d (Ok made) h is = constant_written d made h is
constant_all d (Err e) h is = tt
