-- Arrays and objects that are sent part by part.
use Rattle.std.proofs.Common.{◌≡◌, ℕ, suc, List, [], ◌∷◌, length, drop, map, Result, ◌≤◌, Some, refl, sym, ap, subst}
use Rattle.std.proofs.Common.{◌∙◌}
use Rattle.std.specs.Prelude.{OnOk}
use Rattle.std.proofs.lemmas.List.{drop_all}
use Rattle.std.proofs.lemmas.Result.{on_ok_weaker}
use Rattle.serde.specs.Event.{Log, Logs, seq_begins, seq_ends, map_begins, map_ends}
use Rattle.serde_json.specs.Data.{Data, array, object}
use Rattle.serde_json.specs.Events.{SendsValue, SendsItems, SendsMembers, items_len, members_len}
use Rattle.serde_json.specs.View.{items_of}
use Rattle.qc_containers.specs.Rising.{on_value}
use Rattle.qc_schema.specs.Writing.{members_of}
use Rattle.qc_schema.specs.inner.Encoded.{Begins}

module _ {A : Type 0} (f : A → Data) where
  items_as_many : (xs : List A) → items_len (items_of (map f xs)) ≡ length xs
  items_as_many [] = refl
  items_as_many (x ∷ xs) = ap suc (items_as_many xs)

  members_as_many : (ps : List (List ℕ × A)) → members_len (members_of (map (on_value f) ps)) ≡ length ps
  members_as_many [] = refl
  members_as_many (p ∷ ps) = ap suc (members_as_many ps)

  -- an array is sent where its length was right, and what ended it well after the last item ends it well
  pub array_sent : {T E : Type 0} (xs ys : List A) (k n : ℕ) (start first here end : Log) (r : Result T E) → ys ≡ xs
      → length ys ≤ k → n ≡ length xs → Logs start first (seq_begins (Some n))
      → ((last : Log) → SendsItems (items_of (map f (drop k ys))) here last
      → SendsItems (items_of (map f ys)) first last) → OnOk r (Logs here end seq_ends)
      → OnOk r (SendsValue (array (items_of (map f xs))) start end)
  array_sent xs ys k n start first here end r is done long begun ends =
      on_ok_weaker r (λ e. (
        first,
        subst (λ m. Logs start first (seq_begins (Some m))) (long ∙ sym (items_as_many xs)) begun,
        subst (λ zs. SendsItems (items_of (map f zs)) first end) is
            (ends end (subst (λ zs. SendsItems (items_of (map f zs)) here end) (sym (drop_all k ys done)) e)),
      ))

  -- and so is an object
  pub object_sent : {T E : Type 0} (ps qs : List (List ℕ × A)) (k n : ℕ) (start first here end : Log)
      (r : Result T E) → qs ≡ ps → length qs ≤ k → n ≡ length ps → Logs start first (map_begins (Some n))
      → ((last : Log) → SendsMembers (members_of (map (on_value f) (drop k qs))) here last
      → SendsMembers (members_of (map (on_value f) qs)) first last) → OnOk r (Logs here end map_ends)
      → OnOk r (SendsValue (object (members_of (map (on_value f) ps))) start end)
  object_sent ps qs k n start first here end r is done long begun ends =
      on_ok_weaker r (λ e. (
        first,
        subst (λ m. Logs start first (map_begins (Some m))) (long ∙ sym (members_as_many ps)) begun,
        subst (λ zs. SendsMembers (members_of (map (on_value f) zs)) first end) is
            (ends end
            (subst (λ zs. SendsMembers (members_of (map (on_value f) zs)) here end) (sym (drop_all k qs done)) e)),
      ))

-- what was begun is sent with its content and the end of the object
pub whole_sent : {T E : Type 0} (whole : Data → Data) (content value : Data) (start here sent end : Log)
    (r : Result T E) → value ≡ whole content → Begins whole start here → SendsValue content here sent
    → OnOk r (Logs sent end map_ends) → OnOk r (SendsValue value start end)
whole_sent whole content value start here sent end r is begun sends =
    on_ok_weaker r (λ e. subst (λ v. SendsValue v start end) (sym is) (begun content sent end sends e))
