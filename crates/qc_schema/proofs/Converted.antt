-- A JSON value converted part by part.
use Rattle.std.proofs.Common.{◌≡◌, ℕ, List, [], ◌∷◌, ◌++◌, Option, Some, option_map, option_and_then}
use Rattle.std.proofs.Common.{string_bytes, String, Global, Less, map, sym, ap, subst, ◌∙◌}
use Rattle.std.specs.Prelude.{⊤}
use Rattle.std.specs.List.{AllByRecursion}
use Rattle.std.specs.List.Sorted.{IsStrictlySortedBy}
use Rattle.std.specs.Map.{keys_of}
use Rattle.std.specs.String.{string_cmp}
use Rattle.serde_json.specs.View.{view, members_view}
use Rattle.serde_json.proofs.Views.{Entry}
use Rattle.qc_containers.specs.Rising.{Rising, Above}
use Rattle.qc_data.specs.declared.data.Json.{Json}
use Rattle.qc_containers.proofs.Appending.{names, may_go_last, goes_last, nothing_before, one_more}
use Rattle.qc_schema.specs.JsonReading.{of_data, of_members}

-- the keys alone
abbrev pub keyed : List Entry → List (List ℕ × ⊤)
keyed = map (λ e. (string_bytes e.0, tt))

above_keys : (k : String Global) (es : List Entry) → AllByRecursion (λ y. string_cmp k y ≡ Less) (keys_of es)
    → Above (string_bytes k) (keyed es)
above_keys k [] h = tt
above_keys k (e ∷ es) h = (h.0, above_keys k es h.1)

rising_keys : (es : List Entry) → IsStrictlySortedBy string_cmp (keys_of es) → Rising (keyed es)
unfolding IsStrictlySortedBy
rising_keys [] h = tt
rising_keys (e ∷ es) h = (above_keys e.0 es h.0, rising_keys es h.1)

next_key : (all : List (List ℕ × Json)) (it left : List Entry) (e : Entry) (n : List ℕ) → it ≡ e ∷ left
    → n ≡ string_bytes e.0 → Rising (names all ++ keyed it) → Rising (names all ++ (n, tt) ∷ keyed left)
next_key all it left e n step is r =
    subst (λ k. Rising (names all ++ (k, tt) ∷ keyed left)) (sym is) (subst (λ l. Rising (names all ++ keyed l)) step r)

-- a pair whose key is the next one may go last
pub may_push : (all : List (List ℕ × Json)) (it left : List Entry) (e : Entry) (n : List ℕ) (j : Json) → it ≡ e ∷ left
    → n ≡ string_bytes e.0 → Rising (names all ++ keyed it) → Rising (all ++ (n, j) ∷ [])
may_push all it left e n j step is r = may_go_last all (keyed left) n j (next_key all it left e n step is r)

-- and then the keys to come rise from there
pub still_rising : (all new : List (List ℕ × Json)) (it left : List Entry) (e : Entry) (n : List ℕ) (j : Json)
    → it ≡ e ∷ left → n ≡ string_bytes e.0 → new ≡ all ++ (n, j) ∷ [] → Rising (names all ++ keyed it)
    → Rising (names new ++ keyed left)
still_rising all new it left e n j step is made r =
    goes_last all new (keyed left) n j made (next_key all it left e n step is r)

-- one member more
pub members_more : (all new : List (List ℕ × Json)) (it left : List Entry) (e : Entry) (n : List ℕ) (j : Json)
    (whole : Option (List (List ℕ × Json))) → it ≡ e ∷ left → n ≡ string_bytes e.0
    → whole ≡ option_map (λ ms. all ++ ms) (of_members (members_view it)) → Some j ≡ of_data (view e.1)
    → new ≡ all ++ (n, j) ∷ [] → whole ≡ option_map (λ ms. new ++ ms) (of_members (members_view left))
members_more all new it left e n j whole step named w is made =
    let rest = of_members (members_view left) in
    let at : of_members (members_view it) ≡ option_map (λ ms. (n, j) ∷ ms) rest
    = ap (λ l. of_members (members_view l)) step
    ∙ ap (option_and_then (λ j. option_map (λ ms. (string_bytes e.0, j) ∷ ms) rest)) (sym is)
    ∙ ap (λ k. option_map (λ ms. (k, j) ∷ ms) rest) (sym named) in
    w ∙ ap (option_map (λ ms. all ++ ms)) at ∙ one_more all (n, j) rest
    ∙ ap (λ l. option_map (λ ms. l ++ ms) rest) (sym made)

-- before the first member
pub started : (all : List (List ℕ × Json)) (it es : List Entry) → all ≡ [] → it ≡ es
    → IsStrictlySortedBy string_cmp (keys_of es) → Rising (names all ++ keyed it)
started all it es none is sorted = rw (none, is) (rising_keys es sorted)

pub none_done : (all : List (List ℕ × Json)) (it es : List Entry) → all ≡ [] → it ≡ es
    → of_members (members_view es) ≡ option_map (λ ms. all ++ ms) (of_members (members_view it))
none_done all it es none is = rw (none, is) (sym (nothing_before (of_members (members_view es))))
