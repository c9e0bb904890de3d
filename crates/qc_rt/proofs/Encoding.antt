-- On encodings of data the functions give the encodings of what operators give.
use Rattle.std.proofs.Common.{◌≡◌, ◌≢◌, ℕ, zero, suc, ℤ, pos, negsuc, Bool, true, false, List, [], ◌∷◌, ◌++◌, map, refl}
use Rattle.std.proofs.Common.{sym}
use Rattle.std.proofs.Common.{ap, ◌∙◌, arith}
use Rattle.std.specs.Prelude.{◌==◌, zip, length, cond, Some, None}
use Rattle.std.proofs.lemmas.Bool.Decides.{nat_tests}
use Rattle.std.proofs.lemmas.List.{length-map, map-append}
use Rattle.qc_containers.specs.Name.{is_marker}
use Rattle.qc_data.specs.Encoding.{enc, encoded}
use Rattle.qc_data.specs.Kinds.{as_coll}
use Rattle.qc_data.specs.Outcome.{Mode, Outcome, Value, Halts, and_then, each}
use Rattle.qc_data.specs.declared.data.Datum.{Datum}
use Rattle.qc_data.specs.declared.data.Datum.TheVariants as D
use Rattle.qc_data.specs.declared.data.Json.{Json}
use Rattle.qc_data.specs.declared.data.Json.TheVariants as J
use Rattle.qc_data.proofs.KindLaws.{as_coll-Coll, as_int-Int}
use Rattle.qc_ops.specs.Operands.{as_bool, as_text, as_brand, optional}
use Rattle.qc_ops.specs.Operators.{unary, binary}
use Rattle.qc_ops.specs.Records.{is_among}
use Rattle.qc_ops.specs.Sides.{is_under}
use Rattle.qc_ops.specs.declared.op.Unary.{Unary}
use Rattle.qc_ops.specs.declared.op.Unary.TheVariants as one
use Rattle.qc_ops.specs.declared.op.Binary.{Binary}
use Rattle.qc_ops.specs.declared.op.Binary.TheVariants as two
use Rattle.qc_types.specs.Classes.{Defs}
use Rattle.qc_rt.specs.Laws.{NoMarkers, HasNames, HasClasses, Encodes1, Encodes2, arguments1, function1, function2}
use Rattle.qc_rt.specs.Laws.{names_tree, key_names, key_directions}
use Rattle.qc_rt.specs.Parameters.{as_name, as_names, as_divisor, as_keys, is_zero}
use Rattle.qc_rt.specs.Runtime.{value_on}
use Rattle.qc_rt.specs.Seen.{seen, shown}
use Rattle.qc_rt.proofs.PlainData.{Keeps, Plain, unary_keeps, binary_keeps}
use Rattle.qc_rt.proofs.Returned.{seen-enc}
use Rattle.qc_rt.proofs.Shown.{shown-seen}
use Rattle.qc_rt.proofs.SeenLaws.{seen-Bool, seen-Int, seen-Text, seen-Array}

-- ---- what is shown of plain data

pub shown-plain : (d : Datum) → Plain d → shown d ≡ enc d
shown-plain d h = ap shown (sym (seen-enc d h)) ∙ shown-seen (enc d)

shown_is : (o : Outcome Datum) → Keeps o → and_then o (λ d. Value (shown d)) ≡ encoded o
shown_is (Value d) h = ap Value (shown-plain d h)
shown_is (Halts why) h = refl

-- ---- parameters

text_is : (s : List ℕ) → as_text (seen (J.Text s)) ≡ Value s
text_is s = ap as_text (seen-Text s) ∙ rw (D.outs-Text s) refl

name_is : (n : List ℕ) → is_marker n ≡ false → as_name (seen (J.Text n)) ≡ Value n
name_is n h = rw (text_is n, h) refl

names_each : (ns : List (List ℕ)) → NoMarkers ns → each as_name (map seen (map J.Text ns)) ≡ Value ns
names_each [] h = refl
names_each (n ∷ ns) h = rw (name_is n h.0, names_each ns h.1) refl

array_is : (js : List Json) → as_coll (seen (J.Array js)) ≡ Value (map seen js)
array_is js = ap as_coll (seen-Array js) ∙ as_coll-Coll (map seen js)

names_are : (ns : List (List ℕ)) → NoMarkers ns → as_names (seen (names_tree ns)) ≡ Value ns
names_are ns h = rw (array_is (map J.Text ns)) (names_each ns h)

nonzero : (k : ℤ) → k ≢ pos 0 → is_zero k ≡ false
nonzero (pos zero) h = absurd (h refl)
nonzero (pos (suc n)) h = grind (arith, nat_tests)
nonzero (negsuc n) h = refl

divisor_is : (k : ℤ) → k ≢ pos 0 → as_divisor (seen (J.Int k)) ≡ Value k
divisor_is k h = rw (seen-Int k, as_int-Int k, nonzero k h) refl

bool_is : (b : Bool) → as_bool (seen (J.Bool b)) ≡ Value b
bool_is b = ap as_bool (seen-Bool b) ∙ rw (D.outs-Bool b) refl

abbrev Keys : Type 0
Keys = List (List ℕ × Bool)

keys_names : (keys : Keys) → NoMarkers (map (λ key. key.0) keys)
    → each as_name (map seen (map (λ (key : List ℕ × Bool). J.Text key.0) keys)) ≡ Value (map (λ key. key.0) keys)
keys_names [] h = refl
keys_names (key ∷ keys) h = rw (name_is key.0 h.0, keys_names keys h.1) refl

keys_directions : (keys : Keys)
    → each as_bool (map seen (map (λ (key : List ℕ × Bool). J.Bool key.1) keys)) ≡ Value (map (λ key. key.1) keys)
keys_directions [] = refl
keys_directions (key ∷ keys) = rw (bool_is key.1, keys_directions keys) refl

zip_parts : (keys : Keys) → zip (map (λ key. key.0) keys) (map (λ key. key.1) keys) ≡ keys
zip_parts [] = refl
zip_parts (key ∷ keys) = ap (λ l. key ∷ l) (zip_parts keys)

itself : (n : ℕ) → (n == n) ≡ true
itself n = grind (arith, nat_tests)

as_long : (keys : Keys) → (length (map (λ (key : List ℕ × Bool). key.0) keys)
    == length (map (λ (key : List ℕ × Bool). key.1) keys)) ≡ true
as_long keys = rw (length-map keys (λ (key : List ℕ × Bool). key.0), length-map keys (λ (key : List ℕ × Bool). key.1))
    (itself (length keys))

keys_are : (keys : Keys) → NoMarkers (map (λ key. key.0) keys)
    → as_keys (seen (key_names keys)) (seen (key_directions keys)) ≡ Value keys
keys_are keys h =
    rw (
      array_is (map (λ (key : List ℕ × Bool). J.Text key.0) keys),
      keys_names keys h,
      array_is (map (λ (key : List ℕ × Bool). J.Bool key.1) keys),
      keys_directions keys,
      as_long keys,
      zip_parts keys,
    ) refl

cast_same : (o : Outcome (List ℕ × Datum)) (a : Datum) (f g : List ℕ → Bool) → ((n : List ℕ) → f n ≡ g n)
    → and_then o (λ b. Value (optional (cond (f b.0) (Some a) None)))
    ≡ and_then o (λ b. Value (optional (cond (g b.0) (Some a) None)))
cast_same (Value b) a f g h = ap (λ t. Value (optional (cond t (Some a) None))) (h b.0)
cast_same (Halts why) a f g h = refl

-- ---- the value on what is seen is the operator's

value1 : (m : Mode) (c : Defs) (op : Unary) (classes : List (List ℕ)) (a : Datum) → HasNames op
    → HasClasses c op classes
    → value_on m (function1 op) (map seen (arguments1 classes op) ++ a ∷ []) ≡ unary m c op a
value1 m c (one.DivBy k) classes a h g = rw (divisor_is k h) refl
value1 m c (one.ModBy k) classes a h g = rw (divisor_is k h) refl
value1 m c (one.Rec name) classes a h g = rw (name_is name h) refl
value1 m c (one.Dot name) classes a h g = rw (name_is name h) refl
value1 m c (one.Project names) classes a h g = rw (names_are names h) refl
value1 m c (one.Brand name) classes a h g = rw (name_is name h) refl
value1 m c (one.Cast name) classes a h g =
    rw (names_are classes g.0) (cast_same (as_brand a) a (λ n. is_among n classes) (λ n. is_under c n name) g.1)
value1 m c (one.Order keys) classes a h g = rw (keys_are keys h) refl
value1 m c (one.Group n names) classes a h g = rw (name_is n h.0, names_are names h.1) refl
value1 m c (one.Like pattern) classes a h g = rw (text_is pattern) refl
value1 m c one.Not classes a h g = refl
value1 m c one.Neg classes a h g = refl
value1 m c one.Abs classes a h g = refl
value1 m c one.Count classes a h g = refl
value1 m c one.Sum classes a h g = refl
value1 m c one.Min classes a h g = refl
value1 m c one.Max classes a h g = refl
value1 m c one.Avg classes a h g = refl
value1 m c one.Element classes a h g = refl
value1 m c one.Flatten classes a h g = refl
value1 m c one.Distinct classes a h g = refl
value1 m c one.Single classes a h g = refl
value1 m c one.Left classes a h g = refl
value1 m c one.Right classes a h g = refl
value1 m c one.Unbrand classes a h g = refl

seen_last : (js : List Json) (a : Datum) → Plain a → map seen (js ++ enc a ∷ []) ≡ map seen js ++ a ∷ []
seen_last js a h = map-append seen js (enc a ∷ []) ∙ ap (λ d. map seen js ++ d ∷ []) (seen-enc a h)

pub encodes1 : Encodes1
encodes1 m c op classes a names below h =
    ap (λ l. and_then (value_on m (function1 op) l) (λ d. Value (shown d))) (seen_last (arguments1 classes op) a h)
    ∙ ap (λ o. and_then o (λ d. Value (shown d))) (value1 m c op classes a names below)
    ∙ shown_is (unary m c op a) (unary_keeps m c op a names h)

value2 : (m : Mode) (op : Binary) (a b : Datum) → value_on m (function2 op) (a ∷ b ∷ []) ≡ binary m op a b
value2 m two.Eq a b = refl
value2 m two.Lt a b = refl
value2 m two.Le a b = refl
value2 m two.And a b = refl
value2 m two.Or a b = refl
value2 m two.Add a b = refl
value2 m two.Sub a b = refl
value2 m two.Mul a b = refl
value2 m two.Least a b = refl
value2 m two.Greatest a b = refl
value2 m two.Union a b = refl
value2 m two.Except a b = refl
value2 m two.Intersect a b = refl
value2 m two.Member a b = refl
value2 m two.Cat a b = refl
value2 m two.Merge a b = refl
value2 m two.Glue a b = refl

pub encodes2 : Encodes2
encodes2 m op a b p q =
    (λ i. and_then (value_on m (function2 op) (seen-enc a p i ∷ seen-enc b q i ∷ [])) (λ d. Value (shown d)))
    ∙ ap (λ o. and_then o (λ d. Value (shown d))) (value2 m op a b)
    ∙ shown_is (binary m op a b) (binary_keeps m op a b p q)
