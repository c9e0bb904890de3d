-- Objects, and what is seen in them.
use Rattle.std.proofs.Common.{◌≡◌, ℕ, ◌+◌, ◌<◌, Bool, true, false, cond, List, [], ◌∷◌, map, drop, get_or, length}
use Rattle.std.proofs.Common.{Option, Some, None, refl, sym, ap, subst, ◌∙◌, ◌++◌, take}
use Rattle.std.specs.Borrow.{Bor}
use Rattle.std.specs.Option.{option_copied}
use Rattle.std.specs.Prelude.{◌||◌, ◌&&◌, not, is_some, filter, option_map}
use Rattle.std.specs.Ordering.{is_lt}
use Rattle.std.specs.Str.{bytes_eq}
use Rattle.qc_containers.specs.Name.{is_marker}
use Rattle.qc_containers.specs.Pairs.{lookup, put}
use Rattle.std.proofs.lemmas.List.Elements.{filter_more}
use Rattle.qc_containers.specs.Rising.{on_value, text_cmp, Above, Rising}
use Rattle.qc_containers.proofs.Putting.{Rising-take}
use Rattle.qc_containers.proofs.Truth.{or_none}
use Rattle.qc_data.specs.Outcome.{Value, and_then}
use Rattle.qc_data.specs.declared.data.Datum.{Datum}
use Rattle.qc_data.specs.declared.data.Datum.TheVariants as D
use Rattle.qc_data.specs.declared.data.Json.{Json}
use Rattle.qc_data.specs.declared.data.Json.TheVariants as J
use Rattle.qc_ops.specs.Grouping.{Lacks}
use Rattle.qc_ops.specs.Operands.{as_rec}
use Rattle.qc_ops.specs.Records.{compatible, is_among, has_names, part_of, over, put_new, same_at}
use Rattle.qc_ops.proofs.Overlays.{from_place}
use Rattle.qc_rt.specs.Seen.{has_marker, seen}
use Rattle.qc_rt.specs.Seen.{fields_seen}
use Rattle.qc_rt.proofs.Markers.{has_marker-map}
use Rattle.qc_rt.proofs.SeenLaws.{seen-Array, seen-plain}

abbrev Pairs : Type 0
Pairs = List (List ℕ × Datum)

abbrev Raw : Type 0
Raw = List (List ℕ × Json)

-- ---- look-ups

pub lookup-seen : (n : List ℕ) (ms : Raw) → lookup n (fields_seen ms) ≡ option_map seen (lookup n ms)
lookup-seen n [] = refl
lookup-seen n (p ∷ ms) =
    elim (bytes_eq p.0 n) as (λ b. cond b (Some (seen p.1)) (lookup n (fields_seen ms))
    ≡ option_map seen (cond b (Some p.1) (lookup n ms))) [ true ↦ refl | false ↦ lookup-seen n ms ]

pub ruleset lookups = (lookup-seen)

-- ---- the object of one name

unmarked_one : (b : Bool) → b ≡ false → (b || false) ≡ false
unmarked_one b e = rw e refl

pub record_seen : (n : List ℕ) (j : Json) → is_marker n ≡ false
    → seen (J.Object ((n, j) ∷ [])) ≡ D.Rec ((n, seen j) ∷ [])
record_seen n j h = seen-plain ((n, j) ∷ []) (unmarked_one (is_marker n) h)

-- ---- members that pass a test of their names

module _ (test : List ℕ → Bool) where
  filter-seen : (ms : Raw) → filter (λ pair. test pair.0) (fields_seen ms)
      ≡ fields_seen (filter (λ pair. test pair.0) ms)
  filter-seen [] = refl
  filter-seen (p ∷ ms) =
      elim (test p.0) as (λ b. cond b (on_value seen p ∷ filter (λ pair. test pair.0) (fields_seen ms))
      (filter (λ pair. test pair.0) (fields_seen ms))
      ≡ fields_seen (cond b (p ∷ filter (λ pair. test pair.0) ms) (filter (λ pair. test pair.0) ms)))
      [ true ↦ ap (λ l. on_value seen p ∷ l) (filter-seen ms) | false ↦ filter-seen ms ]

  first_passed : (b : Bool) (p : List ℕ × Json) (ms : Raw) → is_marker p.0 ≡ false → has_marker ms ≡ false
      → has_marker (cond b (p ∷ ms) ms) ≡ false
  first_passed true p ms e h = rw (e, h) refl
  first_passed false p ms e h = h

  filter-plain : (ms : Raw) → has_marker ms ≡ false → has_marker (filter (λ pair. test pair.0) ms) ≡ false
  filter-plain [] h = refl
  filter-plain (p ∷ ms) h =
      let q = or_none (is_marker p.0) (has_marker ms) h in
      first_passed (test p.0) p (filter (λ pair. test pair.0) ms) q.0 (filter-plain ms q.1)

-- the fields of the names, which are there
pub part_seen : (names : List (List ℕ)) (d : Datum) (ms made : Raw) → as_rec d ≡ Value (fields_seen ms)
    → has_names names (fields_seen ms) ≡ true → made ≡ filter (λ pair. is_among pair.0 names) ms
    → part_of names d ≡ Value (fields_seen made)
part_seen names d ms made is there e =
    rw (is, there) (ap Value (filter-seen (λ n. is_among n names) ms ∙ ap fields_seen (sym e)))

pub part_plain : (names : List (List ℕ)) (ms made : Raw) → has_marker ms ≡ false
    → made ≡ filter (λ pair. is_among pair.0 names) ms → has_marker made ≡ false
part_plain names ms made h e = ap has_marker e ∙ filter-plain (λ n. is_among n names) ms h

-- ---- of members that rise those that pass a test rise

module _ {T : Type 0} (test : List ℕ × T → Bool) where
  Above-filter : (n : List ℕ) (ps : List (List ℕ × T)) → Above n ps → Above n (filter test ps)
  Above-filter n [] a = tt
  Above-filter n (p ∷ ps) a =
      elim (test p) as (λ b. Above n (cond b (p ∷ filter test ps) (filter test ps)))
      [ true ↦ (a.0, Above-filter n ps a.1) | false ↦ Above-filter n ps a.1 ]

  Rising-filter : (ps : List (List ℕ × T)) → Rising ps → Rising (filter test ps)
  Rising-filter [] r = tt
  Rising-filter (p ∷ ps) r =
      elim (test p) as (λ b. Rising (cond b (p ∷ filter test ps) (filter test ps)))
      [ true ↦ (Above-filter p.0 ps r.0, Rising-filter ps r.1) | false ↦ Rising-filter ps r.1 ]

  -- one member more
  pub Rising-filter_more : (ps part : List (List ℕ × T)) (i : ℕ) (p : List ℕ × T) → Rising ps → i < length ps
      → p ≡ get_or ps i p → test p ≡ true → part ≡ filter test (take i ps) → Rising (part ++ p ∷ [])
  Rising-filter_more ps part i p r lt at pass is =
      let passed : test (get_or ps i p) ≡ true = ap test (sym at) ∙ pass in
      let more : filter test (take (i + 1) ps) ≡ part ++ p ∷ [] =
      filter_more test ps i p lt ∙ rw (passed, ← at, ← is) refl in
      subst Rising more (Rising-filter (take (i + 1) ps) (Rising-take (i + 1) ps r))

-- ---- a member put

pub put-seen : (n : List ℕ) (j : Json) (ms : Raw) → fields_seen (put n j ms) ≡ put n (seen j) (fields_seen ms)
put-seen n j [] = refl
put-seen n j (p ∷ ms) =
    elim (is_lt (text_cmp p.0 n)) as (λ b. fields_seen (cond b (p ∷ put n j ms) ((n, j) ∷ p ∷ ms))
    ≡ cond b (on_value seen p ∷ put n (seen j) (fields_seen ms)) ((n, seen j) ∷ on_value seen p ∷ fields_seen ms))
    [ true ↦ ap (λ l. on_value seen p ∷ l) (put-seen n j ms) | false ↦ refl ]

pub put-plain : {A : Type 0} (n : List ℕ) (v : A) (ps : List (List ℕ × A)) → is_marker n ≡ false
    → has_marker ps ≡ false → has_marker (put n v ps) ≡ false
put-plain n v [] e h = rw e refl
put-plain n v (p ∷ ps) e h =
    let q = or_none (is_marker p.0) (has_marker ps) h in
    let rest : has_marker (put n v ps) ≡ false = put-plain n v ps e q.1 in
    elim (is_lt (text_cmp p.0 n)) as (λ b. has_marker (cond b (p ∷ put n v ps) ((n, v) ∷ p ∷ ps)) ≡ false)
    [ true ↦ rw (q.0, rest) refl | false ↦ rw (e, q.0, q.1) refl ]

new_by : (b : Bool) (n : List ℕ) (d : Datum) (ps : Pairs) → is_some (lookup n ps) ≡ b
    → put_new n d ps ≡ cond b ps (put n d ps)
new_by b n d ps e = ap (λ t. cond t ps (put n d ps)) e

some-seen : (o : Option Json) → is_some (option_map seen o) ≡ is_some o
some-seen None = refl
some-seen (Some j) = refl

pub some-lookup : (n : List ℕ) (ms : Raw) → is_some (lookup n (fields_seen ms)) ≡ is_some (lookup n ms)
some-lookup n ms = ap is_some (lookup-seen n ms) ∙ some-seen (lookup n ms)

copied_some : {A : Type 0} (o : Option (Bor A)) → is_some (option_copied o) ≡ is_some o
copied_some None = refl
copied_some (Some r) = refl

-- the names from a place on, by whether the one there is there
pub names_more : (names : List (List ℕ)) (ms : Raw) (i : ℕ) (n found : List ℕ) (o : Option (Bor Json)) (none : Bool)
    → i < length names → n ≡ get_or names i n → found ≡ n → option_copied o ≡ lookup found ms → is_some o ≡ not none
    → has_names names (fields_seen ms) ≡ has_names (drop i names) (fields_seen ms)
    → has_names names (fields_seen ms) ≡ (not none && has_names (drop (i + 1) names) (fields_seen ms))
names_more names ms i n found o none lt at same there is so_far =
    so_far ∙ ap (λ l. has_names l (fields_seen ms)) (from_place names i n lt at)
    ∙ ap (λ t. t && has_names (drop (i + 1) names) (fields_seen ms)) (some-lookup n ms
    ∙ ap (λ m. is_some (lookup m ms)) (sym same) ∙ ap is_some (sym there) ∙ copied_some o ∙ is)

-- the members from a place on, by whether the value there is the same as the other object's
pub shared_more : (fs gs : Raw) (i : ℕ) (p : List ℕ × Json) (found : List ℕ) (o : Option (Bor Json))
    (whole alike : Bool) → i < length fs → p ≡ get_or fs i p → found ≡ p.0 → option_copied o ≡ lookup found gs
    → alike ≡ same_at (seen p.1) (option_map seen (option_copied o))
    → whole ≡ compatible (fields_seen (drop i fs)) (fields_seen gs)
    → whole ≡ (alike && compatible (fields_seen (drop (i + 1) fs)) (fields_seen gs))
shared_more fs gs i p found o whole alike lt at same there is so_far =
    so_far ∙ ap (λ l. compatible (fields_seen l) (fields_seen gs)) (from_place fs i p lt at)
    ∙ ap (λ t. t && compatible (fields_seen (drop (i + 1) fs)) (fields_seen gs))
    (ap (same_at (seen p.1)) (lookup-seen p.0 gs ∙ ap (λ m. option_map seen (lookup m gs)) (sym same)
    ∙ ap (option_map seen) (sym there)) ∙ sym is)

there_seen : (n : List ℕ) (ms : Raw) (b : Bool) → is_some (lookup n ms) ≡ b → is_some (lookup n (fields_seen ms)) ≡ b
there_seen n ms b e = some-lookup n ms ∙ e

-- where one of its name is there
pub new_there : (n : List ℕ) (j : Json) (ms all : Raw) → is_some (lookup n ms) ≡ true → all ≡ ms
    → fields_seen all ≡ put_new n (seen j) (fields_seen ms)
new_there n j ms all h e = ap fields_seen e ∙ sym (new_by true n (seen j) (fields_seen ms) (there_seen n ms true h))

-- where none is
pub new_put : (n : List ℕ) (j : Json) (ms all : Raw) → is_some (lookup n ms) ≡ false → all ≡ put n j ms
    → fields_seen all ≡ put_new n (seen j) (fields_seen ms)
new_put n j ms all h e =
    ap fields_seen e ∙ put-seen n j ms ∙ sym (new_by false n (seen j) (fields_seen ms) (there_seen n ms false h))

-- ---- one object over another

new-plain : (b : Bool) (n : List ℕ) (d : Datum) (ps : Pairs) → is_marker n ≡ false → has_marker ps ≡ false
    → has_marker (cond b ps (put n d ps)) ≡ false
new-plain true n d ps e h = h
new-plain false n d ps e h = put-plain n d ps e h

over-plain : (fs gs : Pairs) → has_marker fs ≡ false → has_marker gs ≡ false → has_marker (over fs gs) ≡ false
over-plain [] gs p q = q
over-plain (f ∷ fs) gs p q =
    let r = or_none (is_marker f.0) (has_marker fs) p in
    new-plain (is_some (lookup f.0 (over fs gs))) f.0 f.1 (over fs gs) r.0 (over-plain fs gs r.1 q)

pub over_shown : (all fs gs : Raw) → fields_seen all ≡ over (fields_seen fs) (fields_seen gs) → has_marker fs ≡ false
    → has_marker gs ≡ false → seen (J.Object all) ≡ D.Rec (over (fields_seen fs) (fields_seen gs))
over_shown all fs gs e p q =
    let h : has_marker all ≡ false =
    sym (has_marker-map seen all) ∙ ap has_marker e
    ∙ over-plain (fields_seen fs) (fields_seen gs) (has_marker-map seen fs ∙ p) (has_marker-map seen gs ∙ q) in
    seen-plain all h ∙ ap D.Rec e

-- ---- the object of a group

none_from : (o : Option Json) → option_map seen o ≡ None → o ≡ None
none_from None e = refl
none_from (Some j) e = absurd (cc)

-- a name that no field has is none of a member
pub absent_seen : (n : List ℕ) (d : Datum) (ms : Raw) → Lacks n d → as_rec d ≡ Value (fields_seen ms)
    → lookup n ms ≡ None
absent_seen n d ms lacks e = none_from (lookup n ms) (sym (lookup-seen n ms) ∙ lacks (fields_seen ms) e)

-- the members of a key and an array put among them
pub group_seen : (n : List ℕ) (d : Datum) (items : List Json) (ms made : Raw) → as_rec d ≡ Value (fields_seen ms)
    → is_marker n ≡ false → has_marker ms ≡ false → made ≡ put n (J.Array items) ms
    → and_then (as_rec d) (λ fields. Value (D.Rec (put n (D.Coll (map seen items)) fields)))
    ≡ Value (seen (J.Object made))
group_seen n d items ms made e free plain is =
    let h : has_marker made ≡ false = ap has_marker is ∙ put-plain n (J.Array items) ms free plain in
    ap (λ o. and_then o (λ fields. Value (D.Rec (put n (D.Coll (map seen items)) fields)))) e
    ∙ ap Value (sym (seen-plain made h ∙ ap D.Rec (ap fields_seen is ∙ put-seen n (J.Array items) ms
    ∙ ap (λ x. put n x (fields_seen ms)) (seen-Array items))))
