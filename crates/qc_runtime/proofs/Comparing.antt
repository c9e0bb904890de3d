-- Integers and texts compared.
use Rattle.std.proofs.Common.{◌≡◌, ℕ, ℤ, List, map, refl, ap, ◌∙◌}
use Rattle.std.specs.Ordering.{int_cmp}
use Rattle.std.specs.declared.cmp.Ordering.{Ordering}
use Rattle.qc_containers.specs.Rising.{text_cmp}
use Rattle.qc_data.specs.Outcome.{Outcome, Value, Halts, Stuck}
use Rattle.qc_data.specs.declared.data.Datum.{Datum}
use Rattle.qc_data.specs.declared.data.Datum.TheOpen.{Datum-F}
use Rattle.qc_data.specs.declared.data.Datum.TheViews.{out-Datum}
use Rattle.qc_data.specs.declared.data.Datum.TheVariants as D
use Rattle.qc_data.specs.declared.data.Json.{Json}
use Rattle.qc_data.specs.declared.data.Json.TheOpen.{Json-F}
use Rattle.qc_data.specs.declared.data.Json.TheViews.{out-Json}
use Rattle.qc_data.specs.declared.data.Json.TheFolds.{map-Json}
use Rattle.qc_data.specs.declared.data.Json.TheVariants as J
use Rattle.qc_ops.specs.Truths.{compared, compared_at}
use Rattle.qc_rt.specs.Seen.{seen, seen_step}
use Rattle.qc_rt.specs.Seen.{fields_seen}
use Rattle.qc_rt.proofs.SeenLaws.{object_case, seen-Int, seen-Text, seen_layers}

-- by the outermost layers of two trees
abbrev pub trees_compared : Json-F Json → Json-F Json → Outcome Ordering
trees_compared (Json-F.Int m) (Json-F.Int n) = Value (int_cmp m n)
trees_compared (Json-F.Text s) (Json-F.Text t) = Value (text_cmp s t)
trees_compared _ _ = Halts Stuck

abbrev layer : Json-F Json → Datum
layer x = seen_step (map-Json Json Datum seen x)

with_int : (m : ℤ) (y : Json-F Json)
    → compared_at (Datum-F.Int m) (out-Datum (layer y)) ≡ trees_compared (Json-F.Int m) y
with_int m Json-F.Null = rw D.outs-Unit refl
with_int m (Json-F.Bool b) = rw (D.outs-Bool b) refl
with_int m (Json-F.Int n) = rw (D.outs-Int n) refl
with_int m (Json-F.Text s) = rw (D.outs-Text s) refl
with_int m (Json-F.Array js) = rw (D.outs-Coll (map seen js)) refl
with_int m (Json-F.Object ms) =
    object_case (compared_at (Datum-F.Int m)) (Halts Stuck) (λ d. refl) (λ d. refl) (λ n d. refl) (λ fs. refl)
    (fields_seen ms)

with_text : (s : List ℕ) (y : Json-F Json)
    → compared_at (Datum-F.Text s) (out-Datum (layer y)) ≡ trees_compared (Json-F.Text s) y
with_text s Json-F.Null = rw D.outs-Unit refl
with_text s (Json-F.Bool b) = rw (D.outs-Bool b) refl
with_text s (Json-F.Int n) = rw (D.outs-Int n) refl
with_text s (Json-F.Text t) = rw (D.outs-Text t) refl
with_text s (Json-F.Array js) = rw (D.outs-Coll (map seen js)) refl
with_text s (Json-F.Object ms) =
    object_case (compared_at (Datum-F.Text s)) (Halts Stuck) (λ d. refl) (λ d. refl) (λ n d. refl) (λ fs. refl)
    (fields_seen ms)

layers_compared : (x y : Json-F Json)
    → compared_at (out-Datum (layer x)) (out-Datum (layer y)) ≡ trees_compared x y
layers_compared Json-F.Null y = rw D.outs-Unit refl
layers_compared (Json-F.Bool b) y = rw (D.outs-Bool b) refl
layers_compared (Json-F.Int m) y = rw (D.outs-Int m) (with_int m y)
layers_compared (Json-F.Text s) y = rw (D.outs-Text s) (with_text s y)
layers_compared (Json-F.Array js) y = rw (D.outs-Coll (map seen js)) refl
layers_compared (Json-F.Object ms) y =
    object_case (λ l. compared_at l (out-Datum (layer y))) (Halts Stuck) (λ d. refl) (λ d. refl) (λ n d. refl)
    (λ fs. refl) (fields_seen ms)

pub compared_seen : (a b : Json) → compared (seen a) (seen b) ≡ trees_compared (out-Json a) (out-Json b)
compared_seen a b =
    (λ i. compared (seen_layers a i) (seen_layers b i)) ∙ layers_compared (out-Json a) (out-Json b)

-- two integers and two texts
pub ints_compared : (a b : Json) (m n : ℤ) → a ≡ J.Int m → b ≡ J.Int n
    → compared (seen a) (seen b) ≡ Value (int_cmp m n)
ints_compared a b m n is at =
    (λ i. compared ((ap seen is ∙ seen-Int m) i) ((ap seen at ∙ seen-Int n) i)) ∙ rw (D.outs-Int m, D.outs-Int n) refl

pub texts_compared : (a b : Json) (s t : List ℕ) → a ≡ J.Text s → b ≡ J.Text t
    → compared (seen a) (seen b) ≡ Value (text_cmp s t)
texts_compared a b s t is at =
    (λ i. compared ((ap seen is ∙ seen-Text s) i) ((ap seen at ∙ seen-Text t) i))
    ∙ rw (D.outs-Text s, D.outs-Text t) refl
