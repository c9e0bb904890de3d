-- What is written for a tree is read as that tree.
use Rattle.std.proofs.Common.{Result, Ok, Err, IfOk, IsUtf8, ◌≡◌, ℕ, suc, length, drop, max, ◌≤◌, ◌<◌, ◌^◌, ℤ, pos}
use Rattle.std.proofs.Common.{negsuc, List, [], ◌∷◌, ◌++◌, map, Bool, true, false, nat_lt, Some, option_map}
use Rattle.std.proofs.Common.{option_and_then, IsTrue, Less, Greater, refl, sym, ap, ap₂, subst, ◌∙◌, append_assoc}
use Rattle.std.proofs.Common.{append-nil, arith, nat_cmp}
use Rattle.std.specs.Prelude.{◌&&◌, ⊤}
use Rattle.std.specs.Ordering.{is_lt, ordering_reverse}
use Rattle.std.specs.Cmp.Lexicographic.{slice_cmp}
use Rattle.std.proofs.lemmas.Bool.{ltb-true}
use Rattle.std.proofs.lemmas.List.{drop_all}
use Rattle.std.proofs.lemmas.Cmp.{nat_list_cmp_total}
use Rattle.json.specs.Json as json
use Rattle.json.specs.Lex.{tokens}
use Rattle.json.specs.Tree as tree
use Rattle.json.proofs.Printed.Decimals.{IsNumber-decimal, IsNumber-signed_decimal}
use Rattle.json.proofs.Printed.Tokens.{tokens-print}
use Rattle.json.proofs.Printed.Trees.{value-json_tokens, ArePrintable-json_tokens}
use Rattle.serde_json.specs.Data as value
use Rattle.serde_json.specs.Data.{Data, Items, Members, item, member, no_members, put, depth, items_depth}
use Rattle.serde_json.specs.Data.{members_depth}
use Rattle.serde_json.specs.Find.{of_integer}
use Rattle.serde_json.specs.Read as read
use Rattle.serde_json.specs.Read.{max_depth}
use Rattle.serde_json.specs.View.{items_of}
use Rattle.serde_json.specs.Written.{outline, items_outline, members_outline}
use Rattle.serde_json.proofs.Numbers.{number_of-decimal, number_of-negative}
use Rattle.serde_json.proofs.Texts.{print-outline}
use Rattle.qc_data.specs.Facts.{all_true, all_values, all_above, rise}
use Rattle.qc_containers.specs.Rising.{on_value, text_cmp, Rising}
use Rattle.qc_data.specs.declared.data.Json.{Json}
use Rattle.qc_data.specs.declared.data.Json.TheOpen.{Json-F}
use Rattle.qc_data.specs.declared.data.Json.TheViews.{roll-Json}
use Rattle.qc_data.specs.declared.data.Json.TheFolds.{map-Json, ind-Json, fold-roll-Json}
use Rattle.qc_data.specs.declared.data.Json.TheVariants as J
use Rattle.qc_data.proofs.Risen.{rise-mapped}
use Rattle.qc_containers.proofs.Truth.{and_parts, and_both, is_Less}
use Rattle.qc_schema.specs.JsonReading as back
use Rattle.qc_schema.specs.inner.Sound.{sound, sound_step, fits64}
use Rattle.qc_schema.specs.Writing.{data_of, data_step, members_of, text_of}
use Rattle.qc_schema.proofs.Valued.{data-roll}

-- a name that is above all before it goes last
AllBelow : {A : Type 0} → List (List ℕ × A) → List ℕ → Type 0
AllBelow [] k = ⊤
AllBelow (p ∷ ps) k = (text_cmp p.0 k ≡ Less) × AllBelow ps k

put_end : (done : List (List ℕ × Data)) (k : List ℕ) (d : Data) → AllBelow done k
    → put k d (members_of done) ≡ members_of (done ++ (k, d) ∷ [])
unfolding AllBelow
put_end [] k d h = refl
put_end (p ∷ ps) k d h =
    let up : slice_cmp nat_cmp k p.0 ≡ Greater = nat_list_cmp_total.antisymm k p.0 ∙ ap ordering_reverse h.0 in
    rw up (ap (member p.0 p.1) (put_end ps k d h.1))

above_middle : {A : Type 0} (n : List ℕ) (ps qs : List (List ℕ × A)) (p : List ℕ × A)
    → all_above n (ps ++ p ∷ qs) ≡ true → text_cmp n p.0 ≡ Less
above_middle n [] qs p h = is_Less (text_cmp n p.0) (and_parts (is_lt (text_cmp n p.0)) (all_above n qs) h).0
above_middle n (x ∷ ps) qs p h =
    above_middle n ps qs p (and_parts (is_lt (text_cmp n x.0)) (all_above n (ps ++ p ∷ qs)) h).1

all_below : {A : Type 0} (ps qs : List (List ℕ × A)) (p : List ℕ × A) → rise (ps ++ p ∷ qs) ≡ true → AllBelow ps p.0
unfolding AllBelow
all_below [] qs p h = tt
all_below (x ∷ ps) qs p h =
    let r = and_parts (all_above x.0 (ps ++ p ∷ qs)) (rise (ps ++ p ∷ qs)) h in
    (above_middle x.0 ps qs p r.0, all_below ps qs p r.1)

above_map : {A B : Type 0} (f : A → B) (n : List ℕ) (ps : List (List ℕ × A))
    → all_above n (map (on_value f) ps) ≡ all_above n ps
above_map f n [] = refl
above_map f n (p ∷ ps) = ap (λ b. is_lt (text_cmp n p.0) && b) (above_map f n ps)

rising_map : {A B : Type 0} (f : A → B) (ps : List (List ℕ × A)) → rise (map (on_value f) ps) ≡ rise ps
rising_map f [] = refl
rising_map f (p ∷ ps) = ap₂ (λ a b. a && b) (above_map f p.0 ps) (rising_map f ps)

-- ---- one layer

sound-roll : (x : Json-F Json) → sound (roll-Json x) ≡ sound_step (map-Json Json Bool sound x)
sound-roll x = fold-roll-Json Bool sound_step x

-- the data's numbers' texts are numbers; it is read where its outline stands, and is the tree's
record Returns (d : Data) (j : Json) : Type 0 where
  numbers : tree.HasNumbers (outline d)
  reads : read.of_json (outline d) ≡ Some d
  tree : back.of_data d ≡ Some j

abbrev Given : Json → Type 0
Given j = sound j ≡ true → Returns (data_of j) j

abbrev Seen : Type 0
Seen = (j : Json) × Given j

small : (n : ℕ) → nat_lt n (2 ^ 63) ≡ true → n < 2 ^ 63
small n h = ltb-true n (2 ^ 63) h

int_returns : (z : ℤ) → fits64 z ≡ true → Returns (value.number (of_integer z)) (J.Int z)
int_returns (pos n) h = record {
  numbers = IsNumber-decimal n (omega (arith, small n h));
  reads = ap (option_map value.number) (number_of-decimal n (omega (arith, small n h)));
  tree = rw h refl;
}
int_returns (negsuc n) h = record {
  numbers = IsNumber-signed_decimal (negsuc n) (small n h);
  reads = ap (option_map value.number) (number_of-negative n (small n h));
  tree = refl;
}

items_numbers : (ws : List Seen) → all_true (map sound (map (λ e. e.0) ws)) ≡ true
    → tree.ItemsHaveNumbers (items_outline (items_of (map data_of (map (λ e. e.0) ws))))
items_numbers [] h = tt
items_numbers (w ∷ ws) h = let p = and_parts (sound w.0) _ h in ((w.1 p.0).numbers, items_numbers ws p.1)

items_read : (ws : List Seen) → all_true (map sound (map (λ e. e.0) ws)) ≡ true
    → read.of_items (items_outline (items_of (map data_of (map (λ e. e.0) ws))))
    ≡ Some (items_of (map data_of (map (λ e. e.0) ws)))
items_read [] h = refl
items_read (w ∷ ws) h = let p = and_parts (sound w.0) _ h in rw ((w.1 p.0).reads, items_read ws p.1) refl

items_tree : (ws : List Seen) → all_true (map sound (map (λ e. e.0) ws)) ≡ true
    → back.of_items (items_of (map data_of (map (λ e. e.0) ws))) ≡ Some (map (λ e. e.0) ws)
items_tree [] h = refl
items_tree (w ∷ ws) h = let p = and_parts (sound w.0) _ h in rw ((w.1 p.0).tree, items_tree ws p.1) refl

abbrev trees : List (List ℕ × Seen) → List (List ℕ × Json)
trees = map (on_value (λ e. e.0))

members_numbers : (ws : List (List ℕ × Seen)) → all_values (map (on_value sound) (trees ws)) ≡ true
    → tree.MembersHaveNumbers (members_outline (members_of (map (on_value data_of) (trees ws))))
members_numbers [] h = tt
members_numbers (w ∷ ws) h = let p = and_parts (sound w.1.0) _ h in ((w.1.1 p.0).numbers, members_numbers ws p.1)

members_read : (ws : List (List ℕ × Seen)) (done : List (List ℕ × Data))
    → all_values (map (on_value sound) (trees ws)) ≡ true → rise (done ++ map (on_value data_of) (trees ws)) ≡ true
    → read.of_members (members_outline (members_of (map (on_value data_of) (trees ws)))) (members_of done)
    ≡ Some (members_of (done ++ map (on_value data_of) (trees ws)))
members_read [] done h r = ap (λ l. Some (members_of l)) (sym (append-nil done))
members_read (w ∷ ws) done h r =
    let p = and_parts (sound w.1.0) _ h in
    let rest = map (on_value data_of) (trees ws) in
    let e : List ℕ × Data = (w.0, data_of w.1.0) in
    let same = append_assoc done (e ∷ []) rest in
    ap (option_and_then (λ d. read.of_members (members_outline (members_of rest)) (put w.0 d (members_of done))))
    (w.1.1 p.0).reads
    ∙ ap (read.of_members (members_outline (members_of rest)))
    (put_end done w.0 (data_of w.1.0) (all_below done rest e r))
    ∙ members_read ws (done ++ e ∷ []) p.1 (ap rise same ∙ r) ∙ ap (λ l. Some (members_of l)) same

members_tree : (ws : List (List ℕ × Seen)) → all_values (map (on_value sound) (trees ws)) ≡ true
    → back.of_members (members_of (map (on_value data_of) (trees ws))) ≡ Some (trees ws)
members_tree [] h = refl
members_tree (w ∷ ws) h = let p = and_parts (sound w.1.0) _ h in rw ((w.1.1 p.0).tree, members_tree ws p.1) refl

layer_returns : (w : Json-F Seen) → sound_step (map-Json Json Bool sound (map-Json Seen Json (λ e. e.0) w)) ≡ true
    → Returns (data_step (map-Json Json Data data_of (map-Json Seen Json (λ e. e.0) w)))
    (roll-Json (map-Json Seen Json (λ e. e.0) w))
layer_returns Json-F.Null h = record { numbers = tt; reads = refl; tree = ap Some (sym J.rolls-Null) }
layer_returns (Json-F.Bool b) h =
    record { numbers = tt; reads = refl; tree = ap Some (sym (J.rolls-Bool b)) }
layer_returns (Json-F.Int n) h =
    let r = int_returns n h in record {
      numbers = r.numbers;
      reads = r.reads;
      tree = r.tree
          ∙ ap Some (sym (J.rolls-Int n));
    }
layer_returns (Json-F.Text s) h =
    record { numbers = tt; reads = refl; tree = ap Some (sym (J.rolls-Text s)) }
layer_returns (Json-F.Array ws) h = record {
  numbers = items_numbers ws h;
  reads = ap (option_map value.array) (items_read ws h);
  tree = ap (option_map J.Array) (items_tree ws h) ∙ ap Some (sym (J.rolls-Array _));
}
layer_returns (Json-F.Object ws) h =
    let p = and_parts (rise (map (on_value sound) (trees ws))) _ h in
    record {
      numbers = members_numbers ws p.1;
      reads = ap (option_map value.object)
          (members_read ws [] p.1 (rising_map data_of (trees ws) ∙ sym (rising_map sound (trees ws)) ∙ p.0));
      tree = ap (option_map J.Object) (members_tree ws p.1) ∙ ap Some (sym (J.rolls-Object _));
    }

returns-step : (x : Json-F Json) (w : Json-F Seen) → map-Json Seen Json (λ e. e.0) w ≡ x → Given (roll-Json x)
returns-step x w is h =
    subst (λ d. Returns d (roll-Json x)) (sym (data-roll x))
    (subst (λ y. sound_step (map-Json Json Bool sound y) ≡ true
    → Returns (data_step (map-Json Json Data data_of y)) (roll-Json y)) is (layer_returns w) (sym (sound-roll x) ∙ h))

returns : (j : Json) → Given j
returns = ind-Json Given returns-step

-- ---- nesting

mutual
  depth-outline : (d : Data) → tree.depth (outline d) ≡ depth d
  depth-outline value.null = refl
  depth-outline (value.boolean b) = refl
  depth-outline (value.number n) = refl
  depth-outline (value.string s) = refl
  depth-outline (value.array ds) = ap suc (depth-items ds)
  depth-outline (value.object ms) = ap suc (depth-members ms)

  depth-items : (ds : Items) → tree.items_depth (items_outline ds) ≡ items_depth ds
  depth-items value.no_items = refl
  depth-items (item d ds) = ap₂ max (depth-outline d) (depth-items ds)

  depth-members : (ms : Members) → tree.members_depth (members_outline ms) ≡ members_depth ms
  depth-members no_members = refl
  depth-members (member k d ms) = ap₂ max (depth-outline d) (depth-members ms)

-- the text is read as the tree
pub means : (j : Json) (text : List ℕ) → text ≡ text_of j → IsUtf8 text → IsTrue (sound j)
    → depth (data_of j) ≤ max_depth → back.Means text j
means j text is utf8 ok shallow =
    let r = returns j ok in
    let written =
    ap tokens (is ∙ sym (print-outline (data_of j)))
    ∙ tokens-print (tree.json_tokens (outline (data_of j)))
    (ArePrintable-json_tokens (outline (data_of j)) r.numbers) in
    let parsed =
    ap (json.value max_depth) (written ∙ sym (append-nil _))
    ∙ value-json_tokens (outline (data_of j)) max_depth [] (omega (arith, shallow, depth-outline (data_of j))) in (
      utf8,
      ap (λ o. option_and_then back.of_data
          (option_and_then read.of_json (option_and_then (λ p. json.if_last p.0 p.1) o))) parsed
          ∙ ap (option_and_then back.of_data) r.reads ∙ r.tree,
    )

-- names that rise, of members that are sound
pub none_left : (ms ps : List (List ℕ × Json)) (k : ℕ) → ps ≡ ms → Rising ms → length ps ≤ k
    → all_values (map (on_value sound) ps) ≡ all_values (map (on_value sound) (drop k ps))
    → (rise (map (on_value sound) ms) && all_values (map (on_value sound) ms)) ≡ true
none_left ms ps k is r n h =
    and_both _ _ (rise-mapped sound ms ps is r)
    (ap (λ l. all_values (map (on_value sound) l)) (sym is) ∙ h
    ∙ ap (λ l. all_values (map (on_value sound) l)) (drop_all k ps n))

-- what holds of the one answer
pub ok_at : {T E : Type 0} (r : Result T E) (t : T) (P : T → Type 0) → IfOk r (λ x. x ≡ t) → P t → IfOk r P
ok_at (Ok x) t P e p = subst P (sym e) p
ok_at (Err x) t P e p = tt
