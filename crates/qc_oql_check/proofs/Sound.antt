-- The type of a query is the type of its value, in each world of the schema.
use Rattle.std.proofs.Common.{◌≡◌, Bool, List, [], ◌∷◌, map, IsTrue, refl, sym, subst}
use Rattle.std.specs.Prelude.{Option, Some, None, Ok, option_map}
use Rattle.qc_containers.specs.Name.{is_name}
use Rattle.qc_data.specs.Outcome.{Mode, any_size}
use Rattle.qc_data.specs.declared.data.Datum.{Datum}
use Rattle.qc_types.specs.declared.ty.Ty.{Ty}
use Rattle.qc_types.specs.Classes.{Defs}
use Rattle.qc_types.specs.Schemas.{SchemaOf, WorldOf, good_classes, is_world}
use Rattle.qc_ops.specs.Records.{field}
use Rattle.qc_ops.specs.Texts.{likeness}
use Rattle.qc_ops.specs.declared.op.Unary.TheVariants as one
use Rattle.qc_oql_tree.specs.declared.tree.Oql.{Oql}
use Rattle.qc_oql_tree.specs.declared.tree.Oql.TheOpen.{Oql-F, Filter-F, Key-F, Named-F, Order-F, Select-F}
use Rattle.qc_oql_tree.specs.declared.tree.Oql.TheViews.{roll-Oql, roll-Filter, roll-Key, roll-Named, roll-Order}
use Rattle.qc_oql_tree.specs.declared.tree.Oql.TheViews.{roll-Select}
use Rattle.qc_oql_tree.specs.declared.tree.Oql.TheFolds.{fold-roll-Oql, fold-roll-Filter, fold-roll-Key}
use Rattle.qc_oql_tree.specs.declared.tree.Oql.TheFolds.{fold-roll-Named, fold-roll-Order, fold-roll-Select, map-Oql}
use Rattle.qc_oql_tree.specs.declared.tree.Oql.TheFolds.{map-Filter, map-Key, map-Named, map-Order, map-Select, ind-Oql}
use Rattle.qc_oql_tree.specs.declared.tree.Oql.TheFolds.{ind-Named}
use Rattle.qc_oql_tree.specs.declared.tree.Filter.{Filter}
use Rattle.qc_oql_tree.specs.declared.tree.Key.{Key}
use Rattle.qc_oql_tree.specs.declared.tree.Named.{Named}
use Rattle.qc_oql_tree.specs.declared.tree.Order.{Order}
use Rattle.qc_oql_tree.specs.declared.tree.Query.{Query}
use Rattle.qc_oql_tree.specs.declared.tree.Select.{Select}
use Rattle.qc_typing.specs.Tables.{unary_type}
use Rattle.qc_typing.specs.Typed.{HasType, IsTyped}
use Rattle.qc_typing.proofs.Outcomes.{typed_all}
use Rattle.qc_typing.proofs.Values.{make_int, make_text}
use Rattle.qc_oql_tree.specs.Bindings.{Meaning}
use Rattle.qc_oql_tree.specs.FormMeanings.{NamedMeaning}
use Rattle.qc_oql_tree.specs.OperatorMeanings.{divided, branded, one_value}
use Rattle.qc_oql_tree.specs.SelectMeaning.{KeyMeaning}
use Rattle.qc_oql_tree.specs.Meaning.{form, filter_form, key_form, named_form, order_form, select_form, oql, filter}
use Rattle.qc_oql_tree.specs.Meaning.{key, named, order, select, query}
use Rattle.qc_oql_tree.proofs.MeaningForms.{select_roll}
use Rattle.qc_oql_tree.proofs.MeaningLaws.{agrees_query}
use Rattle.qc_oql_tree.specs.FormTypings.{Typing, NamedTyping, FilterTyping, OrderTyping, selected_type, type_beside}
use Rattle.qc_oql_tree.specs.OperatorTypes.{one_type, divided_type, field_type, branded_type}
use Rattle.qc_oql_tree.specs.Typing.{form_type, filter_typing, key_typing, named_typing, order_typing, select_typing}
use Rattle.qc_oql_tree.specs.Typing.{oql_type, filter_type, key_type, named_type, order_type, select_type, query_type}
use Rattle.qc_oql_check.proofs.Checked.{Checked, Zip, checked_at, checked_need}
use Rattle.qc_oql_check.proofs.Scopes.{Sound, SoundF, SoundK, SoundN, SoundO, sound_name}
use Rattle.qc_oql_check.proofs.FormsSound.{branded_typed, constant_typed, divided_typed, field_typed, like_typed}
use Rattle.qc_oql_check.proofs.FormsSound.{one_typed, sound_after, sound_chosen, sound_collected, sound_matched}
use Rattle.qc_oql_check.proofs.FormsSound.{sound_two, sound_quantified}
use Rattle.qc_oql_check.proofs.StructSound.{sound_structured}
use Rattle.qc_oql_check.proofs.SelectSound.{Beside, sound_defined, sound_selected}

-- the world of a schema with the datum
abbrev world_of : SchemaOf → Datum → WorldOf
world_of schema d = record { classes = schema.classes; globals = schema.globals; datum = d }

-- a tree with what holds of it
abbrev Held : {X : Type 0} → (X → Type 0) → Type 0
Held {X} P = (x : X) × P x

module _ (schema : SchemaOf) (good : IsTrue (good_classes schema.classes)) (d : Datum)
    (is : IsTrue (is_world schema.classes schema.globals d)) (m : Mode) where
  -- the classes, and the world
  abbrev c : Defs
  c = schema.classes

  abbrev w : WorldOf
  w = world_of schema d

  -- ---- the claim of each type of the trees

  abbrev OfOql : Oql → Type 0
  OfOql x = Sound c m (oql_type schema x) (oql m w x)

  abbrev OfFilter : Filter → Type 0
  OfFilter x = SoundF c m (filter_type schema x) (filter m w x)

  abbrev OfKey : Key → Type 0
  OfKey x = SoundK c m (key_type schema x) (key m w x)

  abbrev OfNamed : Named → Type 0
  OfNamed x = SoundN c m (named_type schema x) (named m w x)

  abbrev OfOrder : Order → Type 0
  OfOrder x = SoundO c m (order_type schema x) (order m w x)

  abbrev OfSelect : Select → Type 0
  OfSelect x = Sound c m (select_type schema x) (select m w x)

  -- ---- parts with their claims

  zip_held : {X A B : Type 0} (P : X → Type 0) (R : A → B → Type 0) (h : X → A) (k : X → B)
      → ((x : X) → P x → R (h x) (k x)) → (ps : List (Held P))
      → Zip R (map h (map (λ p. p.0) ps)) (map k (map (λ p. p.0) ps))
  zip_held P R h k f [] = tt
  zip_held P R h k f (p ∷ ps) = (f p.0 p.1, zip_held P R h k f ps)

  abbrev type_at : Oql-F Oql Filter Key Named Order Select → Typing
  type_at x =
      form_type schema (map-Oql Oql Filter Key Named Order Select Typing FilterTyping Typing NamedTyping OrderTyping
      Typing (oql_type schema) (filter_type schema) (key_type schema) (named_type schema) (order_type schema)
      (select_type schema) x)

  abbrev value_at : Oql-F Oql Filter Key Named Order Select → Meaning
  value_at x =
      form m w (map-Oql Oql Filter Key Named Order Select Meaning Meaning KeyMeaning NamedMeaning
      (List KeyMeaning) Meaning (oql m w) (filter m w) (key m w) (named m w) (order m w) (select m w) x)

  abbrev Parts : Type 0
  Parts = Oql-F (Held OfOql) (Held OfFilter) (Held OfKey) (Held OfNamed) (Held OfOrder) (Held OfSelect)

  abbrev trees : Parts → Oql-F Oql Filter Key Named Order Select
  trees p =
      map-Oql (Held OfOql) (Held OfFilter) (Held OfKey) (Held OfNamed) (Held OfOrder)
      (Held OfSelect) Oql Filter Key Named Order Select (λ e. e.0) (λ e. e.0) (λ e. e.0) (λ e. e.0) (λ e. e.0)
      (λ e. e.0) p

  layer : (p : Parts) → Sound c m (type_at (trees p)) (value_at (trees p))
  layer (Oql-F.Name at name) = sound_name schema w m is at name
  layer (Oql-F.Whole at n) = λ s e i. make_int c n
  layer (Oql-F.Text at text) = λ s e i. make_text c text
  layer (Oql-F.Constant at k) = λ s e i. constant_typed c good m k
  layer (Oql-F.Struct at fs) =
      sound_structured c m _ _ (zip_held OfNamed (SoundN c m) (named_type schema) (named m w) (λ x h. h) fs)
  layer (Oql-F.Bag at xs) =
      sound_collected c good m at _ _ (zip_held OfOql (Sound c m) (oql_type schema) (oql m w) (λ x h. h) xs)
  layer (Oql-F.Unary at op a) =
      sound_after c good m at (one_type c op) (one_value m c op) (oql_type schema a.0) (oql m w a.0)
      (one_typed c good m op) a.1
  layer (Oql-F.Binary at op a b) =
      sound_two c good m at op (oql_type schema a.0) (oql_type schema b.0) (oql m w a.0) (oql m w b.0) a.1 b.1
  layer (Oql-F.Divide at q a k) =
      sound_after c good m at (divided_type c q k) (divided m c q k) (oql_type schema a.0) (oql m w a.0)
      (divided_typed c good m q k) a.1
  layer (Oql-F.Like at a pattern) =
      sound_after c good m at (unary_type c (one.Like pattern)) (likeness pattern) (oql_type schema a.0) (oql m w a.0)
      (like_typed c good m pattern) a.1
  layer (Oql-F.Dot at a label) =
      sound_after c good m at (field_type c label) (field label) (oql_type schema a.0) (oql m w a.0)
      (field_typed c good m label) a.1
  layer (Oql-F.Brand at b class a) =
      sound_after c good m at (branded_type c b class) (branded m c b class) (oql_type schema a.0) (oql m w a.0)
      (branded_typed c good m b class) a.1
  layer (Oql-F.Match at a l r) =
      sound_matched c good m at (oql_type schema a.0) (oql m w a.0) (named_type schema l.0) (named_type schema r.0)
      (named m w l.0) (named m w r.0) a.1 l.1 r.1
  layer (Oql-F.If at t a b) =
      sound_chosen c good m at (oql_type schema t.0) (oql_type schema a.0) (oql_type schema b.0) (oql m w t.0)
      (oql m w a.0) (oql m w b.0) t.1 a.1 b.1
  layer (Oql-F.Quantified at q a t) =
      sound_quantified c good m at q (named_type schema a.0) (named m w a.0) (oql_type schema t.0) (oql m w t.0) a.1 t.1
  layer (Oql-F.Select at x) = x.1

  -- ---- each type of the trees, at its outermost layer

  of_oql : (x : Oql-F Oql Filter Key Named Order Select) → Sound c m (type_at x) (value_at x) → OfOql (roll-Oql x)
  of_oql x h =
      let typing : oql_type schema (roll-Oql x) ≡ type_at x =
      fold-roll-Oql Typing FilterTyping Typing NamedTyping OrderTyping Typing
      (form_type schema) filter_typing key_typing named_typing order_typing (select_typing schema) x in
      let meaning : oql m w (roll-Oql x) ≡ value_at x =
      fold-roll-Oql Meaning Meaning KeyMeaning NamedMeaning (List KeyMeaning) Meaning
      (form m w) filter_form key_form named_form order_form select_form x in
      rw (typing, meaning) h

  of_filter : (x : Filter-F Oql Filter Key Named Order Select) → OfOql x.test → OfFilter (roll-Filter x)
  of_filter x h =
      let typing : ◌≡◌ {A = FilterTyping} (filter_type schema (roll-Filter x))
      (record { at = x.at; test = oql_type schema x.test }) = fold-roll-Filter Typing FilterTyping Typing NamedTyping
      OrderTyping Typing (form_type schema) filter_typing key_typing named_typing order_typing
      (select_typing schema) x in
      let meaning : filter m w (roll-Filter x) ≡ oql m w x.test =
      fold-roll-Filter Meaning Meaning KeyMeaning NamedMeaning (List KeyMeaning) Meaning
      (form m w) filter_form key_form named_form order_form select_form x in
      rw (typing, meaning) h

  of_key : (x : Key-F Oql Filter Key Named Order Select) → OfOql x.of → OfKey (roll-Key x)
  of_key x h =
      let typing : key_type schema (roll-Key x) ≡ oql_type schema x.of =
      fold-roll-Key Typing FilterTyping Typing NamedTyping OrderTyping Typing
      (form_type schema) filter_typing key_typing named_typing order_typing (select_typing schema) x in
      let meaning : key m w (roll-Key x) ≡ (oql m w x.of, x.direction) =
      fold-roll-Key Meaning Meaning KeyMeaning NamedMeaning (List KeyMeaning) Meaning
      (form m w) filter_form key_form named_form order_form select_form x in
      rw (typing, meaning) h

  of_named : (x : Named-F Oql Filter Key Named Order Select) → OfOql x.of → OfNamed (roll-Named x)
  of_named x h =
      let typing : ◌≡◌ {A = NamedTyping} (named_type schema (roll-Named x))
      (record { at = x.at; name = x.name; of = type_beside x.at x.name (oql_type schema x.of) }) =
      fold-roll-Named Typing FilterTyping Typing NamedTyping OrderTyping Typing
      (form_type schema) filter_typing key_typing named_typing order_typing (select_typing schema) x in
      let meaning : named m w (roll-Named x) ≡ (x.name, oql m w x.of) =
      fold-roll-Named Meaning Meaning KeyMeaning NamedMeaning (List KeyMeaning) Meaning
      (form m w) filter_form key_form named_form order_form select_form x in
      let beside : Sound c m (type_beside x.at x.name (oql_type schema x.of)) (oql m w x.of) =
      λ s e i. checked_need m (HasType c) x.at (is_name x.name) (λ done. oql_type schema x.of e) (oql m w x.of s)
      (λ named. h s e i) in
      rw (typing, meaning) (refl, beside)

  of_order : (x : Order-F Oql Filter Key Named Order Select)
      → Zip (SoundK c m) (map (key_type schema) x.keys) (map (key m w) x.keys) → OfOrder (roll-Order x)
  of_order x h =
      let typing : ◌≡◌ {A = OrderTyping} (order_type schema (roll-Order x))
      (record { at = x.at; keys = map (key_type schema) x.keys }) = fold-roll-Order Typing FilterTyping Typing
      NamedTyping OrderTyping Typing (form_type schema) filter_typing key_typing named_typing order_typing
      (select_typing schema) x in
      let meaning : order m w (roll-Order x) ≡ map (key m w) x.keys =
      fold-roll-Order Meaning Meaning KeyMeaning NamedMeaning (List KeyMeaning) Meaning
      (form m w) filter_form key_form named_form order_form select_form x in
      rw (typing, meaning) h

  select_parts : (distinct : Bool) (v : Oql) (bs : List Named) (f : Option Filter) (o : Option Order)
      → select_type schema (roll-Select (record
      { distinct = distinct; value = v; sources = bs; filter = f; order = o }))
      ≡ selected_type c (oql_type schema v) (map (named_type schema) bs) (option_map (filter_type schema) f)
      (option_map (order_type schema) o)
  select_parts distinct v bs None None =
      fold-roll-Select Typing FilterTyping Typing NamedTyping OrderTyping Typing
      (form_type schema) filter_typing key_typing named_typing order_typing (select_typing schema)
      (record { distinct = distinct; value = v; sources = bs; filter = None; order = None })
  select_parts distinct v bs None (Some o) =
      fold-roll-Select Typing FilterTyping Typing NamedTyping OrderTyping Typing
      (form_type schema) filter_typing key_typing named_typing order_typing (select_typing schema)
      (record { distinct = distinct; value = v; sources = bs; filter = None; order = Some o })
  select_parts distinct v bs (Some f) None =
      fold-roll-Select Typing FilterTyping Typing NamedTyping OrderTyping Typing
      (form_type schema) filter_typing key_typing named_typing order_typing (select_typing schema)
      (record { distinct = distinct; value = v; sources = bs; filter = Some f; order = None })
  select_parts distinct v bs (Some f) (Some o) =
      fold-roll-Select Typing FilterTyping Typing NamedTyping OrderTyping Typing
      (form_type schema) filter_typing key_typing named_typing order_typing (select_typing schema)
      (record { distinct = distinct; value = v; sources = bs; filter = Some f; order = Some o })

  of_select : (x : Select-F Oql Filter Key Named Order Select) → OfOql x.value
      → Zip (SoundN c m) (map (named_type schema) x.sources) (map (named m w) x.sources)
      → Beside (SoundF c m) (option_map (filter_type schema) x.filter) (option_map (filter m w) x.filter)
      → Beside (SoundO c m) (option_map (order_type schema) x.order) (option_map (order m w) x.order)
      → OfSelect (roll-Select x)
  of_select x h i j k =
      rw (select_parts x.distinct x.value x.sources x.filter x.order, select_roll m w x)
      (sound_selected c good m x.distinct (oql_type schema x.value) (oql m w x.value)
      (map (named_type schema) x.sources) (map (named m w) x.sources) (option_map (filter_type schema) x.filter)
      (option_map (filter m w) x.filter) (option_map (order_type schema) x.order)
      (option_map (order m w) x.order) h i j k)

  -- ---- by induction

  step_oql : (x : Oql-F Oql Filter Key Named Order Select) (p : Parts) → trees p ≡ x → OfOql (roll-Oql x)
  step_oql x p same = subst (λ z. OfOql (roll-Oql z)) same (of_oql (trees p) (layer p))

  step_filter : (x : Filter-F Oql Filter Key Named Order Select)
      (p : Filter-F (Held OfOql) (Held OfFilter) (Held OfKey) (Held OfNamed) (Held OfOrder) (Held OfSelect))
      → map-Filter (Held OfOql) (Held OfFilter) (Held OfKey) (Held OfNamed) (Held OfOrder)
      (Held OfSelect) Oql Filter Key Named Order Select (λ e. e.0) (λ e. e.0) (λ e. e.0) (λ e. e.0) (λ e. e.0)
      (λ e. e.0) p ≡ x → OfFilter (roll-Filter x)
  step_filter x p same = subst (λ z. OfFilter (roll-Filter z)) same (of_filter _ p.test.1)

  step_key : (x : Key-F Oql Filter Key Named Order Select)
      (p : Key-F (Held OfOql) (Held OfFilter) (Held OfKey) (Held OfNamed) (Held OfOrder) (Held OfSelect))
      → map-Key (Held OfOql) (Held OfFilter) (Held OfKey) (Held OfNamed) (Held OfOrder)
      (Held OfSelect) Oql Filter Key Named Order Select (λ e. e.0) (λ e. e.0) (λ e. e.0) (λ e. e.0) (λ e. e.0)
      (λ e. e.0) p ≡ x → OfKey (roll-Key x)
  step_key x p same = subst (λ z. OfKey (roll-Key z)) same (of_key _ p.of.1)

  step_named : (x : Named-F Oql Filter Key Named Order Select)
      (p : Named-F (Held OfOql) (Held OfFilter) (Held OfKey) (Held OfNamed) (Held OfOrder) (Held OfSelect))
      → map-Named (Held OfOql) (Held OfFilter) (Held OfKey) (Held OfNamed) (Held OfOrder)
      (Held OfSelect) Oql Filter Key Named Order Select (λ e. e.0) (λ e. e.0) (λ e. e.0) (λ e. e.0) (λ e. e.0)
      (λ e. e.0) p ≡ x → OfNamed (roll-Named x)
  step_named x p same = subst (λ z. OfNamed (roll-Named z)) same (of_named _ p.of.1)

  step_order : (x : Order-F Oql Filter Key Named Order Select)
      (p : Order-F (Held OfOql) (Held OfFilter) (Held OfKey) (Held OfNamed) (Held OfOrder) (Held OfSelect))
      → map-Order (Held OfOql) (Held OfFilter) (Held OfKey) (Held OfNamed) (Held OfOrder)
      (Held OfSelect) Oql Filter Key Named Order Select (λ e. e.0) (λ e. e.0) (λ e. e.0) (λ e. e.0) (λ e. e.0)
      (λ e. e.0) p ≡ x → OfOrder (roll-Order x)
  step_order x p same =
      subst (λ z. OfOrder (roll-Order z)) same
      (of_order _ (zip_held OfKey (SoundK c m) (key_type schema) (key m w) (λ x h. h) p.keys))

  abbrev select_trees : Select-F (Held OfOql) (Held OfFilter) (Held OfKey) (Held OfNamed) (Held OfOrder) (Held OfSelect)
      → Select-F Oql Filter Key Named Order Select
  select_trees p =
      map-Select (Held OfOql) (Held OfFilter) (Held OfKey) (Held OfNamed) (Held OfOrder)
      (Held OfSelect) Oql Filter Key Named Order Select (λ e. e.0) (λ e. e.0) (λ e. e.0) (λ e. e.0) (λ e. e.0)
      (λ e. e.0) p

  select_held : (distinct : Bool) (v : Held OfOql) (bs : List (Held OfNamed)) (f : Option (Held OfFilter))
      (o : Option (Held OfOrder))
      → OfSelect (roll-Select (select_trees
      (record { distinct = distinct; value = v; sources = bs; filter = f; order = o })))
  select_held distinct v bs None None =
      of_select _ v.1 (zip_held OfNamed (SoundN c m) (named_type schema) (named m w) (λ x h. h) bs) tt tt
  select_held distinct v bs None (Some o) =
      of_select _ v.1 (zip_held OfNamed (SoundN c m) (named_type schema) (named m w) (λ x h. h) bs) tt o.1
  select_held distinct v bs (Some f) None =
      of_select _ v.1 (zip_held OfNamed (SoundN c m) (named_type schema) (named m w) (λ x h. h) bs) f.1 tt
  select_held distinct v bs (Some f) (Some o) =
      of_select _ v.1 (zip_held OfNamed (SoundN c m) (named_type schema) (named m w) (λ x h. h) bs) f.1 o.1

  step_select : (x : Select-F Oql Filter Key Named Order Select)
      (p : Select-F (Held OfOql) (Held OfFilter) (Held OfKey) (Held OfNamed) (Held OfOrder) (Held OfSelect))
      → select_trees p ≡ x → OfSelect (roll-Select x)
  step_select x p same =
      subst (λ z. OfSelect (roll-Select z)) same (select_held p.distinct p.value p.sources p.filter p.order)

  sound_oql : (x : Oql) → OfOql x
  sound_oql =
      ind-Oql OfOql OfFilter OfKey OfNamed OfOrder OfSelect step_oql step_filter step_key step_named step_order
      step_select

  sound_named : (x : Named) → OfNamed x
  sound_named =
      ind-Named OfOql OfFilter OfKey OfNamed OfOrder OfSelect step_oql step_filter step_key step_named step_order
      step_select

  sound_defines : (ds : List Named) → Zip (SoundN c m) (map (named_type schema) ds) (map (named m w) ds)
  sound_defines [] = tt
  sound_defines (x ∷ ds) = (sound_named x, sound_defines ds)

  query_checked : (q : Query) → Checked m (HasType c) (query_type schema q) (query m w q)
  query_checked q =
      sound_defined c good m (map (named_type schema) q.defines) (map (named m w) q.defines) (oql_type schema q.body)
      (oql m w q.body) (sound_defines q.defines) (sound_oql q.body) [] [] tt

-- in the world of the datum
typed_there : (schema : SchemaOf) (q : Query) (t : Ty) → query_type schema q ≡ Ok t
    → IsTrue (good_classes schema.classes) → (d : Datum) → IsTrue (is_world schema.classes schema.globals d)
    → IsTyped schema.classes (Some t) (λ m. query m (world_of schema d) q)
typed_there schema q t e good d is =
    typed_all schema.classes (Some t) (λ m. query m (world_of schema d) q)
    (checked_at any_size (HasType schema.classes) (query_type schema q) t (query any_size (world_of schema d) q) e
    (query_checked schema good d is any_size q)) (λ low high. agrees_query low high (world_of schema d) q)

-- in each world of a schema with good classes a query of a type has at any size a value of the type, and within any
-- bounds that value or Range
pub query_sound : (schema : SchemaOf) (q : Query) (t : Ty) → query_type schema q ≡ Ok t
    → IsTrue (good_classes schema.classes)
    → (w : WorldOf) → w.classes ≡ schema.classes → w.globals ≡ schema.globals
    → IsTrue (is_world schema.classes schema.globals w.datum) → IsTyped schema.classes (Some t) (λ m. query m w q)
query_sound schema q t e good w classes globals is =
    let same : world_of schema w.datum ≡ w =
    λ i. record { classes = sym classes i; globals = sym globals i; datum = w.datum } in
    subst (λ (v : WorldOf). IsTyped schema.classes (Some t) (λ m. query m v q)) same
    (typed_there schema q t e good w.datum is)
