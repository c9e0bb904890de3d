-- Rows gone through one by one, and sorted by their values at keys.
use Rattle.std.proofs.Common.{◌≡◌, ℕ, suc, ◌+◌, ◌<◌, Bool, true, false, List, [], ◌∷◌, ◌++◌, map, length, take}
use Rattle.std.proofs.Common.{get_or, Equal, refl, sym, ap, ◌∙◌, add-one}
use Rattle.std.specs.Borrow.{Bor}
use Rattle.std.specs.Option.{option_copied}
use Rattle.std.specs.Prelude.{Option, option_map, unwrap_or}
use Rattle.std.specs.Cmp.{IsTotalOrder, on_total, back_total, then_total}
use Rattle.std.proofs.Math.Seq.{take-suc}
use Rattle.std.proofs.lemmas.List.{map-append}
use Rattle.qc_data.specs.Kinds.{as_coll}
use Rattle.qc_data.specs.Outcome.{Why, Value, Halts, each}
use Rattle.qc_containers.specs.Pairs.{lookup}
use Rattle.qc_data.specs.declared.data.Datum.{Datum}
use Rattle.qc_data.specs.declared.data.Datum.TheVariants.{Unit as Nothing}
use Rattle.qc_data.specs.declared.data.Json.{Json}
use Rattle.qc_data.proofs.Total.{cmp_total}
use Rattle.qc_ops.specs.Operands.{as_rec}
use Rattle.qc_ops.specs.Sorting.{directed, ordered, value_at}
use Rattle.qc_ops.specs.inner.Columns.{nth, values_cmp}
use Rattle.qc_rt.specs.Seen.{fields_seen, seen}
use Rattle.qc_runtime.proofs.ObjectLaws.{lookup-seen}
use Rattle.qc_runtime.specs.inner.Columns.{atom, key_values}
use Rattle.qc_runtime.specs.declared.columns.Keyed.{Keyed}

abbrev Keys : Type 0
Keys = List (List ℕ × Bool)

-- ---- one value more

pub value_more : (keys : Keys) (ms : List (List ℕ × Json)) (i : ℕ) (key : List ℕ × Bool) (found : List ℕ)
    (o : Option (Bor Json)) (value : Datum) (values next : List Datum) → i < length keys → key ≡ get_or keys i key
    → found ≡ key.0 → option_copied o ≡ lookup found ms
    → value ≡ atom (unwrap_or (option_map seen (option_copied o)) Nothing)
    → values ≡ key_values (take i keys) (fields_seen ms) → next ≡ values ++ value ∷ []
    → next ≡ key_values (take (i + 1) keys) (fields_seen ms)
value_more keys ms i key found o value values next lt at same there is so_far is_next =
    let ahead : take (i + 1) keys ≡ take i keys ++ key ∷ [] =
    ap (λ n. take n keys) (add-one i) ∙ take-suc keys i key lt ∙ ap (λ y. take i keys ++ y ∷ []) (sym at) in
    let mine : value ≡ atom (value_at key.0 (fields_seen ms)) =
    is ∙ ap (λ x. atom (unwrap_or x Nothing)) (ap (option_map seen) there
    ∙ ap (λ n. option_map seen (lookup n ms)) same ∙ sym (lookup-seen key.0 ms)) in
    is_next ∙ (λ k. so_far k ++ mine k ∷ [])
    ∙ sym (ap (λ l. key_values l (fields_seen ms)) ahead
    ∙ map-append (λ key. atom (value_at key.0 (fields_seen ms))) (take i keys) (key ∷ []))

-- ---- the order is total

level : IsTotalOrder {K = List Datum} (λ xs ys. Equal)
level = record { antisymm = λ x y. refl; trans = λ x y z p q. p; congr = λ x y z p. refl }

directed_total : (ascending : Bool) (i : ℕ) → IsTotalOrder (λ xs ys. directed ascending (nth i xs) (nth i ys))
directed_total true i = on_total (nth i) cmp_total
directed_total false i = on_total (nth i) (back_total cmp_total)

values_total : (i : ℕ) (keys : Keys) → IsTotalOrder (values_cmp i keys)
values_total i [] = level
values_total i (key ∷ keys) = then_total (directed_total key.1 i) (values_total (suc i) keys)

pub keyed_total : (keys : Keys) → IsTotalOrder {K = Keyed} (λ x y. values_cmp 0 keys x.values y.values)
keyed_total keys = on_total (λ row. row.values) (values_total 0 keys)

-- ---- rows that are not all records

pub rows_halt : (keys : Keys) (a : Datum) (js : List Json) (why : Why) → as_coll a ≡ Value (map seen js)
    → each as_rec (map seen js) ≡ Halts why → ordered keys a ≡ Halts why
rows_halt keys a js why coll e = rw (coll, e) refl
