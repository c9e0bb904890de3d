-- A query with a type has names alone where it binds, uses or looks for one, and no divisor 0.
use Rattle.std.proofs.Common.{◌≡◌, ℕ, Bool, true, false, ◌&&◌, List, [], ◌∷◌, map, Option, Some, None, IsTrue, cond}
use Rattle.std.proofs.Common.{refl, sym, subst, rules, true≢false}
use Rattle.std.specs.Prelude.{Result, Ok, Err, option_map}
use Rattle.std.specs.Str.{bytes_eq}
use Rattle.qc_containers.specs.Name.{is_name}
use Rattle.qc_containers.specs.Pairs.{lookup}
use Rattle.qc_containers.proofs.Truth.{and_both, and_parts}
use Rattle.qc_data.specs.Facts.{all_true}
use Rattle.qc_types.proofs.Inductions.{AllOf}
use Rattle.qc_types.specs.Schemas.{SchemaOf}
use Rattle.qc_types.specs.declared.ty.Ty.{Ty}
use Rattle.qc_typing.proofs.RisingLaws.{same_name}
use Rattle.qc_typing.specs.Checking.{and_check, each_checked, need, or_fault}
use Rattle.qc_oql_tree.specs.declared.tree.Oql.{Oql}
use Rattle.qc_oql_tree.specs.declared.tree.Oql.TheOpen.{Oql-F, Filter-F, Key-F, Named-F, Order-F, Select-F}
use Rattle.qc_oql_tree.specs.declared.tree.Oql.TheViews.{roll-Oql, roll-Filter, roll-Key, roll-Named, roll-Order}
use Rattle.qc_oql_tree.specs.declared.tree.Oql.TheViews.{roll-Select, out-Select, the_lemmas}
use Rattle.qc_oql_tree.specs.declared.tree.Oql.TheFolds.{fold-roll-Oql, fold-roll-Filter, fold-roll-Key}
use Rattle.qc_oql_tree.specs.declared.tree.Oql.TheFolds.{fold-roll-Named, fold-roll-Order, map-Oql}
use Rattle.qc_oql_tree.specs.declared.tree.Filter.{Filter}
use Rattle.qc_oql_tree.specs.declared.tree.Key.{Key}
use Rattle.qc_oql_tree.specs.declared.tree.Named.{Named}
use Rattle.qc_oql_tree.specs.declared.tree.Order.{Order}
use Rattle.qc_oql_tree.specs.declared.tree.Quantifier.{Quantifier}
use Rattle.qc_oql_tree.specs.declared.tree.Query.{Query}
use Rattle.qc_oql_tree.specs.declared.tree.Select.{Select}
use Rattle.qc_oql_tree.specs.Bindings.{or_else_some}
use Rattle.qc_oql_tree.specs.FormTypings.{Types, Typing, NamedTyping, FilterTyping, OrderTyping, source_type}
use Rattle.qc_oql_tree.specs.FormTypings.{sources_bound, filter_checked, keys_checked, order_checked, selected_type}
use Rattle.qc_oql_tree.specs.FormTypings.{type_beside, typed_field}
use Rattle.qc_oql_tree.specs.OperatorMeanings.{is_divisor}
use Rattle.qc_oql_tree.specs.OperatorTypes.{divided_type, field_type, branded_type}
use Rattle.qc_typing.specs.Kinds.{bound_by, sides_of}
use Rattle.qc_typing.specs.FieldTypes.{is_atom}
use Rattle.qc_oql_tree.specs.Typing.{form_type, filter_typing, key_typing, named_typing, order_typing, select_typing}
use Rattle.qc_oql_tree.specs.Typing.{oql_type, filter_type, key_type, named_type, order_type, select_type, defined_type}
use Rattle.qc_oql_tree.specs.Typing.{query_type}
use Rattle.qc_oql_check.proofs.Forms.{select_is}
use Rattle.qc_oql_nra.specs.HasNames.{are_names, part_names, oql_names, filter_names, key_names, named_names}
use Rattle.qc_oql_nra.specs.HasNames.{order_names, select_names, has_names, filter_has_names, key_has_names}
use Rattle.qc_oql_nra.specs.HasNames.{named_has_names, order_has_names, select_has_names, query_has_names}
use Rattle.qc_oql_nra.proofs.NameForms.{names_roll}
use Rattle.qc_oql_nra.proofs.OqlInduction.{OfSome, PartsHold, all_named, all_oql}

-- ---- what holds where a check gives something

abbrev Yields : {A : Type 0} → (A → Type 0) → Result A ℕ → Type 0
Yields P (Ok a) = P a
Yields P (Err at) = Unit {0}

-- the test is true where the check gives something
abbrev Shown : {A : Type 0} → Bool → Result A ℕ → Type 0
Shown b r = Yields (λ a. b ≡ true) r

yields_then : {A B : Type 0} (P : A → Type 0) (Q : B → Type 0) (r : Result A ℕ) (f : A → Result B ℕ) → Yields P r
    → ((a : A) → P a → Yields Q (f a)) → Yields Q (and_check r f)
yields_then P Q (Ok a) f h k = k a h
yields_then P Q (Err at) f h k = tt

yields_more : {A : Type 0} (P Q : A → Type 0) (r : Result A ℕ) → ((a : A) → P a → Q a) → Yields P r → Yields Q r
yields_more P Q (Ok a) k h = k a h
yields_more P Q (Err at) k h = tt

always : {A : Type 0} (Q : Type 0) (r : Result A ℕ) → Q → Yields (λ a. Q) r
always Q (Ok a) h = h
always Q (Err at) h = tt

shown_first : {A B : Type 0} (b : Bool) (r : Result A ℕ) (f : A → Result B ℕ) → Shown b r → Shown b (and_check r f)
shown_first b (Ok a) f h = always (b ≡ true) (f a) h
shown_first b (Err at) f h = tt

shown_later : {A B : Type 0} (b : Bool) (r : Result A ℕ) (f : A → Result B ℕ) → ((a : A) → Shown b (f a))
    → Shown b (and_check r f)
shown_later b (Ok a) f h = h a
shown_later b (Err at) f h = tt

shown_if : (b : Bool) (at : ℕ) (o : Option Ty) → Shown b (or_fault at (cond b o None))
shown_if true at o = always (true ≡ true) (or_fault at o) refl
shown_if false at o = tt

-- a test that is true, and one that is where the check gives something
shown_also : {A : Type 0} (b d : Bool) (r : Result A ℕ) → b ≡ true → Shown d r → Shown (b && d) r
shown_also true d r e h = h
shown_also false d r e h = absurd (true≢false (sym e))

-- a test, and then one that is true where the rest gives something
shown_and : {A B : Type 0} (b d : Bool) (r : Result A ℕ) (f : A → Result B ℕ) → Shown b r
    → ((a : A) → Shown d (f a)) → Shown (b && d) (and_check r f)
shown_and b d (Ok a) f h k = shown_also b d (f a) h (k a)
shown_and b d (Err at) f h k = tt

-- each is shown by the check of its own
each_shown : {X Y B : Type 0} (P : X → Type 0) (test : X → Bool) (g : X → Y) (f : Y → Result B ℕ)
    → ((x : X) → P x → Shown (test x) (f (g x))) → (xs : List X) → AllOf P xs
    → Shown (all_true (map test xs)) (each_checked f (map g xs))
each_shown P test g f k [] h = refl
each_shown P test g f k (x ∷ xs) h =
    shown_and (test x) (all_true (map test xs)) (f (g x))
    (λ y. and_check (each_checked f (map g xs)) (λ ys. Ok (y ∷ ys))) (k x h.0)
    (λ y. shown_first (all_true (map test xs)) (each_checked f (map g xs)) (λ ys. Ok (y ∷ ys))
    (each_shown P test g f k xs h.1))

-- a claim of a test and a check, at equal ones
moved : {A : Type 0} (P : Bool → A → Type 0) (b d : Bool) (x y : A) → b ≡ d → x ≡ y → P d y → P b x
moved P b d x y e f h = subst (λ z. P b z) (sym f) (subst (λ z. P z y) (sym e) h)

and_under : (a b d : Bool) → a ≡ true → (b && d) ≡ true → ((a && b) && d) ≡ true
and_under true b d e h = h
and_under false b d e h = absurd (true≢false (sym e))

-- ---- names

name_at : (b : Bool) (m name : List ℕ) (u : Ty) (o : Option Ty) (t : Ty) → bytes_eq m name ≡ b → is_name m ≡ true
    → (o ≡ Some t → is_name name ≡ true) → cond b (Some u) o ≡ Some t → is_name name ≡ true
name_at true m name u o t same h k e = subst (λ n. is_name n ≡ true) (same_name m name same) h
name_at false m name u o t other h k e = k e

-- what stands in a list of names is a name
found_name : (name : List ℕ) (ps : Types) → are_names ps ≡ true → (t : Ty) → lookup name ps ≡ Some t
    → is_name name ≡ true
found_name name [] h t e = absurd (cc)
found_name name (p ∷ ps) h t e =
    let parts = and_parts (is_name p.0) (are_names ps) h in
    name_at (bytes_eq p.0 name) p.0 name p.1 (lookup name ps) t refl parts.0
    (λ later. found_name name ps parts.1 t later) e

-- a text with an expression beside it
beside : (n b : Bool) (at : ℕ) (r : Result Ty ℕ) → (n ≡ true → Shown b r)
    → Yields (λ t. ((n && b) ≡ true) × (n ≡ true)) (and_check (need at n) (λ done. r))
beside true b at r k = yields_more (λ t. b ≡ true) (λ t. (b ≡ true) × (true ≡ true)) r (λ t e. (e, refl)) (k refl)
beside false b at r k = tt

module _ (c : SchemaOf) (known : are_names c.globals ≡ true) where
  -- ---- the claim of each type of the trees

  -- in a scope of names
  abbrev Of : Bool → Typing → Type 0
  Of b a = (s : Types) → are_names s ≡ true → Shown b (a s)

  -- the scope may have the name that is bound
  abbrev OfBound : Bool → NamedTyping → Type 0
  OfBound b n =
      (s : Types) → (is_name n.name ≡ true → are_names s ≡ true)
      → Yields (λ t. (b ≡ true) × (is_name n.name ≡ true)) (n.of s)

  abbrev OfTest : Bool → FilterTyping → Type 0
  OfTest b f = Of b f.test

  abbrev OfKeys : Bool → OrderTyping → Type 0
  OfKeys b o = (s : Types) → are_names s ≡ true → Shown b (keys_checked c.classes o.at o.keys s)

  abbrev OfOql : Oql → Type 0
  OfOql x = Of (has_names x) (oql_type c x)

  abbrev OfFilter : Filter → Type 0
  OfFilter x = OfTest (filter_has_names x) (filter_type c x)

  abbrev OfKey : Key → Type 0
  OfKey x = Of (key_has_names x) (key_type c x)

  abbrev OfNamed : Named → Type 0
  OfNamed x = OfBound (named_has_names x) (named_type c x)

  abbrev OfOrder : Order → Type 0
  OfOrder x = OfKeys (order_has_names x) (order_type c x)

  abbrev OfSelect : Select → Type 0
  OfSelect x = Of (select_has_names x) (select_type c x)

  -- ---- forms

  global_or_bound : (at : ℕ) (name : List ℕ) (s : Types) → are_names s ≡ true → (o p : Option Ty) → lookup name s ≡ o
      → lookup name c.globals ≡ p → Shown (is_name name) (or_fault at (or_else_some o p))
  global_or_bound at name s h (Some t) p e f = found_name name s h t e
  global_or_bound at name s h None (Some t) e f = found_name name c.globals known t f
  global_or_bound at name s h None None e f = tt

  -- a name with an expression alone
  named_shown : (x : Named) → OfNamed x → (s : Types) → are_names s ≡ true
      → Shown (named_has_names x) ((named_type c x).of s)
  named_shown x h s k =
      yields_more (λ t. (named_has_names x ≡ true) × (is_name (named_type c x).name ≡ true))
      (λ t. named_has_names x ≡ true) ((named_type c x).of s) (λ t e. e.0) (h s (λ e. k))

  -- in the scope with the name that is bound
  body_shown : (x : Named) → OfNamed x → (t : Ty) (s : Types) → are_names s ≡ true
      → Shown (named_has_names x) ((named_type c x).of (((named_type c x).name, t) ∷ s))
  body_shown x h t s k =
      yields_more (λ t. (named_has_names x ≡ true) × (is_name (named_type c x).name ≡ true))
      (λ t. named_has_names x ≡ true) ((named_type c x).of (((named_type c x).name, t) ∷ s)) (λ t e. e.0)
      (h (((named_type c x).name, t) ∷ s) (λ e. and_both (is_name (named_type c x).name) (are_names s) e k))

  source_shown : (x : Named) → OfNamed x → (s : Types) → are_names s ≡ true
      → Yields (λ t. (named_has_names x ≡ true) × (is_name (named_type c x).name ≡ true))
      (source_type (named_type c x) s)
  source_shown x h s k =
      let Both : Type 0 = (named_has_names x ≡ true) × (is_name (named_type c x).name ≡ true) in
      yields_then (λ t. Both) (λ t. Both) ((named_type c x).of s) (λ t. or_fault (named_type c x).at (bound_by t))
      (h s (λ e. k)) (λ t both. always Both (or_fault (named_type c x).at (bound_by t)) both)

  matched : (at : ℕ) (a : Oql) (l r : Named) → OfOql a → OfNamed l → OfNamed r
      → Of (has_names a && (named_has_names l && named_has_names r)) (form_type c (Oql-F.Match at (oql_type c a)
      (named_type c l) (named_type c r)))
  matched at a l r h i j s k =
      shown_and (has_names a) (named_has_names l && named_has_names r) (oql_type c a s) _ (h s k) (λ t.
      shown_later (named_has_names l && named_has_names r) (or_fault at (sides_of t)) _ (λ sides.
      shown_and (named_has_names l) (named_has_names r)
      ((named_type c l).of (((named_type c l).name, sides.0) ∷ s)) _ (body_shown l i sides.0 s k) (λ x.
      shown_first (named_has_names r) ((named_type c r).of (((named_type c r).name, sides.1) ∷ s)) _
      (body_shown r j sides.1 s k))))

  chosen : (at : ℕ) (test a b : Oql) → OfOql test → OfOql a → OfOql b
      → Of (has_names test && (has_names a && has_names b)) (form_type c (Oql-F.If at (oql_type c test)
      (oql_type c a) (oql_type c b)))
  chosen at test a b h i j s k =
      shown_and (has_names test) (has_names a && has_names b) (oql_type c test s) _ (h s k) (λ t.
      shown_and (has_names a) (has_names b) (oql_type c a s) _ (i s k) (λ x.
      shown_first (has_names b) (oql_type c b s) _ (j s k)))

  quantified : (at : ℕ) (q : Quantifier) (source : Named) (test : Oql) → OfNamed source → OfOql test
      → Of (named_has_names source && has_names test) (form_type c (Oql-F.Quantified at q (named_type c source)
      (oql_type c test)))
  quantified at q source test h i s k =
      let name = (named_type c source).name in
      yields_then (λ t. (named_has_names source ≡ true) × (is_name name ≡ true))
      (λ t. (named_has_names source && has_names test) ≡ true) (source_type (named_type c source) s) _
      (source_shown source h s k) (λ t both.
      shown_also (named_has_names source) (has_names test) _ both.0
      (shown_first (has_names test) (oql_type c test ((name, t) ∷ s)) _
      (i ((name, t) ∷ s) (and_both (is_name name) (are_names s) both.1 k))))

  layer : (x : Oql-F Oql Filter Key Named Order Select) → PartsHold OfOql OfFilter OfKey OfNamed OfOrder OfSelect x
      → Of (oql_names (map-Oql Oql Filter Key Named Order Select Bool Bool Bool Bool Bool Bool
      has_names filter_has_names key_has_names named_has_names order_has_names select_has_names x))
      (form_type c (map-Oql Oql Filter Key Named Order Select Typing FilterTyping Typing NamedTyping OrderTyping Typing
      (oql_type c) (filter_type c) (key_type c) (named_type c) (order_type c) (select_type c) x))
  layer (Oql-F.Name at name) h s k =
      global_or_bound at name s k (lookup name s) (lookup name c.globals) refl refl
  layer (Oql-F.Whole at n) h s k = refl
  layer (Oql-F.Text at text) h s k = refl
  layer (Oql-F.Constant at constant) h s k = refl
  layer (Oql-F.Struct at fs) h s k =
      shown_first (all_true (map named_has_names fs)) (each_checked (typed_field s) (map (named_type c) fs)) _
      (each_shown OfNamed named_has_names (named_type c) (typed_field s)
      (λ x i. shown_first (named_has_names x) ((named_type c x).of s) _ (named_shown x i s k)) fs h)
  layer (Oql-F.Bag at xs) h s k =
      shown_first (all_true (map has_names xs)) (each_checked (λ member. member s) (map (oql_type c) xs)) _
      (each_shown OfOql has_names (oql_type c) (λ member. member s) (λ x i. i s k) xs h)
  layer (Oql-F.Unary at op a) h s k = shown_first (has_names a) (oql_type c a s) _ (h s k)
  layer (Oql-F.Binary at op a b) h s k =
      shown_and (has_names a) (has_names b) (oql_type c a s) _ (h.0 s k)
      (λ t. shown_first (has_names b) (oql_type c b s) _ (h.1 s k))
  layer (Oql-F.Divide at division a n) h s k =
      shown_and (has_names a) (is_divisor n) (oql_type c a s)
      (λ t. or_fault at (divided_type c.classes division n t)) (h s k)
      (λ t. shown_if (is_divisor n) at _)
  layer (Oql-F.Like at a pattern) h s k = shown_first (has_names a) (oql_type c a s) _ (h s k)
  layer (Oql-F.Dot at a label) h s k =
      shown_and (has_names a) (is_name label) (oql_type c a s) (λ t. or_fault at (field_type c.classes label t)) (h s k)
      (λ t. shown_if (is_name label) at _)
  layer (Oql-F.Brand at branding class a) h s k =
      shown_and (has_names a) (is_name class) (oql_type c a s)
      (λ t. or_fault at (branded_type c.classes branding class t)) (h s k)
      (λ t. shown_if (is_name class) at _)
  layer (Oql-F.Match at a l r) h s k = matched at a l r h.0 h.1 h.2 s k
  layer (Oql-F.If at test a b) h s k = chosen at test a b h.0 h.1 h.2 s k
  layer (Oql-F.Quantified at q source test) h s k = quantified at q source test h.0 h.1 s k
  layer (Oql-F.Select at x) h s k = h s k

  -- ---- the select

  sources_shown : (xs : List Named) → AllOf OfNamed xs → (s : Types) → are_names s ≡ true
      → Yields (λ row. (all_true (map named_has_names xs) ≡ true) × (are_names row ≡ true))
      (sources_bound (map (named_type c) xs) s)
  sources_shown [] all s k = (refl, k)
  sources_shown (x ∷ xs) all s k =
      let name = (named_type c x).name in
      yields_then (λ t. (named_has_names x ≡ true) × (is_name name ≡ true))
      (λ row. (all_true (map named_has_names (x ∷ xs)) ≡ true) × (are_names row ≡ true))
      (source_type (named_type c x) s) (λ t. sources_bound (map (named_type c) xs) ((name, t) ∷ s))
      (source_shown x all.0 s k) (λ t both.
      yields_more (λ row. (all_true (map named_has_names xs) ≡ true) × (are_names row ≡ true))
      (λ row. (all_true (map named_has_names (x ∷ xs)) ≡ true) × (are_names row ≡ true))
      (sources_bound (map (named_type c) xs) ((name, t) ∷ s))
      (λ row rest. (and_both (named_has_names x) (all_true (map named_has_names xs)) both.0 rest.0, rest.1))
      (sources_shown xs all.1 ((name, t) ∷ s) (and_both (is_name name) (are_names s) both.1 k)))

  filter_shown : (o : Option Filter) → OfSome OfFilter o → (s : Types) → are_names s ≡ true
      → Shown (part_names (option_map filter_has_names o)) (filter_checked c.classes (option_map (filter_type c) o) s)
  filter_shown None h s k = refl
  filter_shown (Some x) h s k = shown_first (filter_has_names x) ((filter_type c x).test s) _ (h s k)

  order_shown : (o : Option Order) → OfSome OfOrder o → (s : Types) → are_names s ≡ true
      → Shown (part_names (option_map order_has_names o)) (order_checked c.classes (option_map (order_type c) o) s)
  order_shown None h s k = refl
  order_shown (Some x) h s k = h s k

  keys_shown : (at : ℕ) (ks : List Key) → AllOf OfKey ks → (s : Types) → are_names s ≡ true
      → Shown (all_true (map key_has_names ks)) (keys_checked c.classes at (map (key_type c) ks) s)
  keys_shown at [] all s k = refl
  keys_shown at (x ∷ xs) all s k =
      shown_and (key_has_names x) (all_true (map key_has_names xs)) (key_type c x s) _ (all.0 s k) (λ t.
      shown_later (all_true (map key_has_names xs)) (need at (is_atom c.classes t)) _
      (λ done. keys_shown at xs all.1 s k))

  select_shown : (x : Select-F Oql Filter Key Named Order Select) → OfOql x.value → AllOf OfNamed x.sources
      → OfSome OfFilter x.filter → OfSome OfOrder x.order
      → Of (all_true (map named_has_names x.sources) && (part_names (option_map filter_has_names x.filter)
      && (part_names (option_map order_has_names x.order) && has_names x.value)))
      (selected_type c.classes (oql_type c x.value) (map (named_type c) x.sources) (option_map (filter_type c) x.filter)
      (option_map (order_type c) x.order))
  select_shown x h i j o s k =
      let sources = all_true (map named_has_names x.sources) in
      let filter = part_names (option_map filter_has_names x.filter) in
      let order = part_names (option_map order_has_names x.order) in
      let value = has_names x.value in
      yields_then (λ row. (sources ≡ true) × (are_names row ≡ true))
      (λ t. (sources && (filter && (order && value))) ≡ true) (sources_bound (map (named_type c) x.sources) s) _
      (sources_shown x.sources i s k) (λ row both.
      shown_also sources (filter && (order && value)) _ both.0
      (shown_and filter (order && value) (filter_checked c.classes (option_map (filter_type c) x.filter) row) _
      (filter_shown x.filter j row both.1) (λ kept.
      shown_and order value (order_checked c.classes (option_map (order_type c) x.order) row) _
      (order_shown x.order o row both.1) (λ sorted.
      shown_first value (oql_type c x.value row) _ (h row both.1)))))

  -- ---- each type of the trees, at its outermost layer

  of_oql : (x : Oql-F Oql Filter Key Named Order Select) → PartsHold OfOql OfFilter OfKey OfNamed OfOrder OfSelect x
      → OfOql (roll-Oql x)
  of_oql x h =
      moved Of _ _ _ _
      (fold-roll-Oql Bool Bool Bool Bool Bool Bool
      oql_names filter_names key_names named_names order_names select_names x)
      (fold-roll-Oql Typing FilterTyping Typing NamedTyping OrderTyping Typing
      (form_type c) filter_typing key_typing named_typing order_typing (select_typing c) x)
      (layer x h)

  of_filter : (x : Filter-F Oql Filter Key Named Order Select) → OfOql x.test → OfFilter (roll-Filter x)
  of_filter x h =
      moved OfTest _ (has_names x.test) _ (record { at = x.at; test = oql_type c x.test })
      (fold-roll-Filter Bool Bool Bool Bool Bool Bool
      oql_names filter_names key_names named_names order_names select_names x)
      (fold-roll-Filter Typing FilterTyping Typing NamedTyping OrderTyping Typing
      (form_type c) filter_typing key_typing named_typing order_typing (select_typing c) x)
      h

  of_key : (x : Key-F Oql Filter Key Named Order Select) → OfOql x.of → OfKey (roll-Key x)
  of_key x h =
      moved Of _ (has_names x.of) _ (oql_type c x.of)
      (fold-roll-Key Bool Bool Bool Bool Bool Bool
      oql_names filter_names key_names named_names order_names select_names x)
      (fold-roll-Key Typing FilterTyping Typing NamedTyping OrderTyping Typing
      (form_type c) filter_typing key_typing named_typing order_typing (select_typing c) x)
      h

  of_named : (x : Named-F Oql Filter Key Named Order Select) → OfOql x.of → OfNamed (roll-Named x)
  of_named x h =
      moved OfBound _ (is_name x.name && has_names x.of) _
      (record { at = x.at; name = x.name; of = type_beside x.at x.name (oql_type c x.of) })
      (fold-roll-Named Bool Bool Bool Bool Bool Bool
      oql_names filter_names key_names named_names order_names select_names x)
      (fold-roll-Named Typing FilterTyping Typing NamedTyping OrderTyping Typing
      (form_type c) filter_typing key_typing named_typing order_typing (select_typing c) x)
      (λ s k. beside (is_name x.name) (has_names x.of) x.at (oql_type c x.of s) (λ e. h s (k e)))

  of_order : (x : Order-F Oql Filter Key Named Order Select) → AllOf OfKey x.keys → OfOrder (roll-Order x)
  of_order x h =
      moved OfKeys _ (all_true (map key_has_names x.keys)) _ (record { at = x.at; keys = map (key_type c) x.keys })
      (fold-roll-Order Bool Bool Bool Bool Bool Bool
      oql_names filter_names key_names named_names order_names select_names x)
      (fold-roll-Order Typing FilterTyping Typing NamedTyping OrderTyping Typing
      (form_type c) filter_typing key_typing named_typing order_typing (select_typing c) x)
      (keys_shown x.at x.keys h)

  typed_select : (x : Select-F Oql Filter Key Named Order Select)
      → select_type c (roll-Select x) ≡ selected_type c.classes (oql_type c x.value) (map (named_type c) x.sources)
      (option_map (filter_type c) x.filter) (option_map (order_type c) x.order)
  typed_select x =
      let e : out-Select (roll-Select x) ≡ x = search (rules, the_lemmas) in
      subst (λ (z : Select-F Oql Filter Key Named Order Select). select_type c (roll-Select x)
      ≡ selected_type c.classes (oql_type c z.value) (map (named_type c) z.sources)
      (option_map (filter_type c) z.filter) (option_map (order_type c) z.order)) e (select_is c (roll-Select x))

  of_select : (x : Select-F Oql Filter Key Named Order Select) → OfOql x.value → AllOf OfNamed x.sources
      → OfSome OfFilter x.filter → OfSome OfOrder x.order → OfSelect (roll-Select x)
  of_select x h i j o = moved Of _ _ _ _ (names_roll x) (typed_select x) (select_shown x h i j o)

  -- ---- by induction

  oql_shown : (x : Oql) → OfOql x
  oql_shown =
      all_oql OfOql OfFilter OfKey OfNamed OfOrder OfSelect of_oql of_filter of_key of_named of_order of_select

  bound_shown : (x : Named) → OfNamed x
  bound_shown =
      all_named OfOql OfFilter OfKey OfNamed OfOrder OfSelect of_oql of_filter of_key of_named of_order of_select

  defined_shown : (ds : List Named) (body : Oql) (s : Types) → are_names s ≡ true
      → Shown (all_true (map named_has_names ds) && has_names body)
      (defined_type (map (named_type c) ds) (oql_type c body) s)
  defined_shown [] body s k = oql_shown body s k
  defined_shown (d ∷ ds) body s k =
      let name = (named_type c d).name in
      let later = all_true (map named_has_names ds) in
      yields_then (λ t. (named_has_names d ≡ true) × (is_name name ≡ true))
      (λ t. ((named_has_names d && later) && has_names body) ≡ true) ((named_type c d).of s)
      (λ t. defined_type (map (named_type c) ds) (oql_type c body) ((name, t) ∷ s))
      (bound_shown d s (λ e. k)) (λ t both.
      yields_more (λ t. (later && has_names body) ≡ true) (λ t. ((named_has_names d && later) && has_names body) ≡ true)
      (defined_type (map (named_type c) ds) (oql_type c body) ((name, t) ∷ s))
      (λ t rest. and_under (named_has_names d) later (has_names body) both.0 rest)
      (defined_shown ds body ((name, t) ∷ s) (and_both (is_name name) (are_names s) both.1 k)))

  -- a query with a type in a schema whose globals have names
  pub typed_names : (q : Query) (t : Ty) → query_type c q ≡ Ok t → IsTrue (query_has_names q)
  typed_names q t e = subst (λ r. Shown (query_has_names q) r) e (defined_shown q.defines q.body [] refl)
