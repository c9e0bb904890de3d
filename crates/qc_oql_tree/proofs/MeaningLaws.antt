-- A value within bounds is the value at any size, and a value at any size is within bounds the same or Range.
use Rattle.std.proofs.Common.{◌≡◌, ℤ, Bool, List, [], ◌∷◌, map, refl, subst}
use Rattle.std.specs.Prelude.{Option, Some, None, option_map}
use Rattle.qc_data.specs.Outcome.{Mode, any_size, within, Agrees}
use Rattle.qc_data.proofs.Outcomes.{agrees_same}
use Rattle.qc_ops.specs.Records.{field}
use Rattle.qc_ops.specs.Texts.{likeness}
use Rattle.qc_types.specs.Schemas.{WorldOf}
use Rattle.qc_oql_tree.specs.declared.tree.Oql.{Oql}
use Rattle.qc_oql_tree.specs.declared.tree.Oql.TheOpen.{Oql-F, Filter-F, Key-F, Named-F, Order-F, Select-F}
use Rattle.qc_oql_tree.specs.declared.tree.Oql.TheViews.{roll-Oql, roll-Filter, roll-Key, roll-Named, roll-Order}
use Rattle.qc_oql_tree.specs.declared.tree.Oql.TheViews.{roll-Select}
use Rattle.qc_oql_tree.specs.declared.tree.Oql.TheFolds.{fold-roll-Oql, fold-roll-Filter, fold-roll-Key}
use Rattle.qc_oql_tree.specs.declared.tree.Oql.TheFolds.{fold-roll-Named, fold-roll-Order, map-Oql, map-Filter, map-Key}
use Rattle.qc_oql_tree.specs.declared.tree.Oql.TheFolds.{map-Named, map-Order, map-Select, ind-Oql, ind-Named}
use Rattle.qc_oql_tree.specs.declared.tree.Filter.{Filter}
use Rattle.qc_oql_tree.specs.declared.tree.Key.{Key}
use Rattle.qc_oql_tree.specs.declared.tree.Named.{Named}
use Rattle.qc_oql_tree.specs.declared.tree.Order.{Order}
use Rattle.qc_oql_tree.specs.declared.tree.Query.{Query}
use Rattle.qc_oql_tree.specs.declared.tree.Select.{Select}
use Rattle.qc_oql_tree.specs.Bindings.{Meaning, value_of}
use Rattle.qc_oql_tree.specs.FormMeanings.{NamedMeaning}
use Rattle.qc_oql_tree.specs.OperatorMeanings.{divided, branded, one_value}
use Rattle.qc_oql_tree.specs.SelectMeaning.{KeyMeaning}
use Rattle.qc_oql_tree.specs.Meaning.{form, filter_form, key_form, named_form, order_form, select_form, oql, filter}
use Rattle.qc_oql_tree.specs.Meaning.{key, named, order, select, query}
use Rattle.qc_oql_tree.proofs.MeaningForms.{select_roll}
use Rattle.qc_oql_tree.proofs.Agreeing.{AgreesM, AgreesN, AgreesK, Zip, Both, agrees_on, agrees_value, agrees_two}
use Rattle.qc_oql_tree.proofs.Agreeing.{agrees_divided, agrees_branded, agrees_matched, agrees_chosen}
use Rattle.qc_oql_tree.proofs.Agreeing.{agrees_quantified, agrees_collected, agrees_structured, agrees_selected}
use Rattle.qc_oql_tree.proofs.Agreeing.{agrees_defined}

module _ (lo hi : ℤ) (w : WorldOf) where
  -- ---- the claim of each type of the trees

  abbrev OfOql : Oql → Type 0
  OfOql x = AgreesM (oql any_size w x) (oql (within lo hi) w x)

  abbrev OfFilter : Filter → Type 0
  OfFilter x = AgreesM (filter any_size w x) (filter (within lo hi) w x)

  abbrev OfKey : Key → Type 0
  OfKey x = AgreesK (key any_size w x) (key (within lo hi) w x)

  abbrev OfNamed : Named → Type 0
  OfNamed x = AgreesN (named any_size w x) (named (within lo hi) w x)

  abbrev OfOrder : Order → Type 0
  OfOrder x = Zip AgreesK (order any_size w x) (order (within lo hi) w x)

  abbrev OfSelect : Select → Type 0
  OfSelect x = AgreesM (select any_size w x) (select (within lo hi) w x)

  -- ---- parts with their claims

  zip_held : {X A : Type 0} (P : X → Type 0) (R : A → A → Type 0) (h k : X → A) → ((x : X) → P x → R (h x) (k x))
      → (ps : List ((x : X) × P x)) → Zip R (map h (map (λ p. p.0) ps)) (map k (map (λ p. p.0) ps))
  zip_held P R h k f [] = tt
  zip_held P R h k f (p ∷ ps) = (f p.0 p.1, zip_held P R h k f ps)

  abbrev layer_at : Mode → Oql-F Oql Filter Key Named Order Select → Meaning
  layer_at m x =
      form m w (map-Oql Oql Filter Key Named Order Select Meaning Meaning KeyMeaning NamedMeaning
      (List KeyMeaning) Meaning (oql m w) (filter m w) (key m w) (named m w) (order m w) (select m w) x)

  abbrev Parts : Type 0
  Parts = Oql-F ((x : Oql) × OfOql x) ((x : Filter) × OfFilter x) ((x : Key) × OfKey x) ((x : Named) × OfNamed x)
      ((x : Order) × OfOrder x) ((x : Select) × OfSelect x)

  abbrev trees : Parts → Oql-F Oql Filter Key Named Order Select
  trees p =
      map-Oql ((x : Oql) × OfOql x) ((x : Filter) × OfFilter x) ((x : Key) × OfKey x) ((x : Named) × OfNamed x)
      ((x : Order) × OfOrder x) ((x : Select) × OfSelect x) Oql Filter Key Named Order Select (λ e. e.0) (λ e. e.0)
      (λ e. e.0) (λ e. e.0) (λ e. e.0) (λ e. e.0) p

  layer : (p : Parts) → AgreesM (layer_at any_size (trees p)) (layer_at (within lo hi) (trees p))
  layer (Oql-F.Name at name) s = agrees_same (value_of w name s)
  layer (Oql-F.Whole at n) s = refl
  layer (Oql-F.Text at text) s = refl
  layer (Oql-F.Constant at c) s = refl
  layer (Oql-F.Struct at fs) s =
      agrees_structured _ _ (zip_held OfNamed AgreesN (named any_size w) (named (within lo hi) w) (λ x h. h) fs) s
  layer (Oql-F.Bag at xs) s =
      agrees_collected _ _ (zip_held OfOql AgreesM (oql any_size w) (oql (within lo hi) w) (λ x h. h) xs) s
  layer (Oql-F.Unary at op a) s =
      agrees_on (one_value any_size w.classes op) (one_value (within lo hi) w.classes op) (oql any_size w a.0)
      (oql (within lo hi) w a.0) (agrees_value lo hi w.classes op) a.1 s
  layer (Oql-F.Binary at op a b) s =
      agrees_two lo hi op (oql any_size w a.0) (oql any_size w b.0) (oql (within lo hi) w a.0)
      (oql (within lo hi) w b.0) a.1 b.1 s
  layer (Oql-F.Divide at d a k) s =
      agrees_on (divided any_size w.classes d k) (divided (within lo hi) w.classes d k) (oql any_size w a.0)
      (oql (within lo hi) w a.0) (agrees_divided lo hi w.classes d k) a.1 s
  layer (Oql-F.Like at a pattern) s =
      agrees_on (likeness pattern) (likeness pattern) (oql any_size w a.0) (oql (within lo hi) w a.0)
      (λ x. agrees_same (likeness pattern x)) a.1 s
  layer (Oql-F.Dot at a label) s =
      agrees_on (field label) (field label) (oql any_size w a.0) (oql (within lo hi) w a.0)
      (λ x. agrees_same (field label x)) a.1 s
  layer (Oql-F.Brand at b class a) s =
      agrees_on (branded any_size w.classes b class) (branded (within lo hi) w.classes b class) (oql any_size w a.0)
      (oql (within lo hi) w a.0) (agrees_branded lo hi w.classes b class) a.1 s
  layer (Oql-F.Match at a l r) s =
      agrees_matched (oql any_size w a.0) (oql (within lo hi) w a.0) (named any_size w l.0) (named any_size w r.0)
      (named (within lo hi) w l.0) (named (within lo hi) w r.0) a.1 l.1 r.1 s
  layer (Oql-F.If at t a b) s =
      agrees_chosen (oql any_size w t.0) (oql any_size w a.0) (oql any_size w b.0) (oql (within lo hi) w t.0)
      (oql (within lo hi) w a.0) (oql (within lo hi) w b.0) t.1 a.1 b.1 s
  layer (Oql-F.Quantified at q a t) s =
      agrees_quantified q (named any_size w a.0) (named (within lo hi) w a.0) (oql any_size w t.0)
      (oql (within lo hi) w t.0) a.1 t.1 s
  layer (Oql-F.Select at x) s = x.1 s

  -- ---- each type of the trees, at its outermost layer

  module _ (m : Mode) where
    roll_oql : (x : Oql-F Oql Filter Key Named Order Select) → oql m w (roll-Oql x) ≡ layer_at m x
    roll_oql x =
        fold-roll-Oql Meaning Meaning KeyMeaning NamedMeaning (List KeyMeaning) Meaning
        (form m w) filter_form key_form named_form order_form select_form x

    roll_filter : (x : Filter-F Oql Filter Key Named Order Select) → filter m w (roll-Filter x) ≡ oql m w x.test
    roll_filter x =
        fold-roll-Filter Meaning Meaning KeyMeaning NamedMeaning (List KeyMeaning) Meaning
        (form m w) filter_form key_form named_form order_form select_form x

    roll_key : (x : Key-F Oql Filter Key Named Order Select) → key m w (roll-Key x) ≡ (oql m w x.of, x.direction)
    roll_key x =
        fold-roll-Key Meaning Meaning KeyMeaning NamedMeaning (List KeyMeaning) Meaning
        (form m w) filter_form key_form named_form order_form select_form x

    roll_named : (x : Named-F Oql Filter Key Named Order Select) → named m w (roll-Named x) ≡ (x.name, oql m w x.of)
    roll_named x =
        fold-roll-Named Meaning Meaning KeyMeaning NamedMeaning (List KeyMeaning) Meaning
        (form m w) filter_form key_form named_form order_form select_form x

    roll_order : (x : Order-F Oql Filter Key Named Order Select) → order m w (roll-Order x) ≡ map (key m w) x.keys
    roll_order x =
        fold-roll-Order Meaning Meaning KeyMeaning NamedMeaning (List KeyMeaning) Meaning
        (form m w) filter_form key_form named_form order_form select_form x

  of_oql : (x : Oql-F Oql Filter Key Named Order Select) → AgreesM (layer_at any_size x) (layer_at (within lo hi) x)
      → OfOql (roll-Oql x)
  of_oql x h s = rw (roll_oql any_size x, roll_oql (within lo hi) x) (h s)

  of_filter : (x : Filter-F Oql Filter Key Named Order Select) → OfOql x.test → OfFilter (roll-Filter x)
  of_filter x h s = rw (roll_filter any_size x, roll_filter (within lo hi) x) (h s)

  of_key : (x : Key-F Oql Filter Key Named Order Select) → OfOql x.of → OfKey (roll-Key x)
  of_key x h = rw (roll_key any_size x, roll_key (within lo hi) x) (h, refl)

  of_named : (x : Named-F Oql Filter Key Named Order Select) → OfOql x.of → OfNamed (roll-Named x)
  of_named x h = rw (roll_named any_size x, roll_named (within lo hi) x) (refl, h)

  of_order : (x : Order-F Oql Filter Key Named Order Select)
      → Zip AgreesK (map (key any_size w) x.keys) (map (key (within lo hi) w) x.keys) → OfOrder (roll-Order x)
  of_order x h = rw (roll_order any_size x, roll_order (within lo hi) x) h

  of_select : (x : Select-F Oql Filter Key Named Order Select) → OfOql x.value
      → Zip AgreesN (map (named any_size w) x.sources) (map (named (within lo hi) w) x.sources)
      → Both AgreesM (option_map (filter any_size w) x.filter) (option_map (filter (within lo hi) w) x.filter)
      → Both (Zip AgreesK) (option_map (order any_size w) x.order) (option_map (order (within lo hi) w) x.order)
      → OfSelect (roll-Select x)
  of_select x h i j k s =
      rw (select_roll any_size w x, select_roll (within lo hi) w x)
      (agrees_selected x.distinct _ _ _ _ _ _ _ _ h i j k s)

  -- ---- by induction

  step_oql : (x : Oql-F Oql Filter Key Named Order Select) (p : Parts) → trees p ≡ x → OfOql (roll-Oql x)
  step_oql x p is = subst (λ z. OfOql (roll-Oql z)) is (of_oql (trees p) (layer p))

  step_filter : (x : Filter-F Oql Filter Key Named Order Select)
      (p : Filter-F ((x : Oql) × OfOql x) ((x : Filter) × OfFilter x) ((x : Key) × OfKey x) ((x : Named) × OfNamed x)
      ((x : Order) × OfOrder x) ((x : Select) × OfSelect x))
      → map-Filter ((x : Oql) × OfOql x) ((x : Filter) × OfFilter x) ((x : Key) × OfKey x) ((x : Named) × OfNamed x)
      ((x : Order) × OfOrder x) ((x : Select) × OfSelect x) Oql Filter Key Named Order Select (λ e. e.0) (λ e. e.0)
      (λ e. e.0) (λ e. e.0) (λ e. e.0) (λ e. e.0) p ≡ x → OfFilter (roll-Filter x)
  step_filter x p is = subst (λ z. OfFilter (roll-Filter z)) is (of_filter _ p.test.1)

  step_key : (x : Key-F Oql Filter Key Named Order Select)
      (p : Key-F ((x : Oql) × OfOql x) ((x : Filter) × OfFilter x) ((x : Key) × OfKey x) ((x : Named) × OfNamed x)
      ((x : Order) × OfOrder x) ((x : Select) × OfSelect x))
      → map-Key ((x : Oql) × OfOql x) ((x : Filter) × OfFilter x) ((x : Key) × OfKey x) ((x : Named) × OfNamed x)
      ((x : Order) × OfOrder x) ((x : Select) × OfSelect x) Oql Filter Key Named Order Select (λ e. e.0) (λ e. e.0)
      (λ e. e.0) (λ e. e.0) (λ e. e.0) (λ e. e.0) p ≡ x → OfKey (roll-Key x)
  step_key x p is = subst (λ z. OfKey (roll-Key z)) is (of_key _ p.of.1)

  step_named : (x : Named-F Oql Filter Key Named Order Select)
      (p : Named-F ((x : Oql) × OfOql x) ((x : Filter) × OfFilter x) ((x : Key) × OfKey x) ((x : Named) × OfNamed x)
      ((x : Order) × OfOrder x) ((x : Select) × OfSelect x))
      → map-Named ((x : Oql) × OfOql x) ((x : Filter) × OfFilter x) ((x : Key) × OfKey x) ((x : Named) × OfNamed x)
      ((x : Order) × OfOrder x) ((x : Select) × OfSelect x) Oql Filter Key Named Order Select (λ e. e.0) (λ e. e.0)
      (λ e. e.0) (λ e. e.0) (λ e. e.0) (λ e. e.0) p ≡ x → OfNamed (roll-Named x)
  step_named x p is = subst (λ z. OfNamed (roll-Named z)) is (of_named _ p.of.1)

  step_order : (x : Order-F Oql Filter Key Named Order Select)
      (p : Order-F ((x : Oql) × OfOql x) ((x : Filter) × OfFilter x) ((x : Key) × OfKey x) ((x : Named) × OfNamed x)
      ((x : Order) × OfOrder x) ((x : Select) × OfSelect x))
      → map-Order ((x : Oql) × OfOql x) ((x : Filter) × OfFilter x) ((x : Key) × OfKey x) ((x : Named) × OfNamed x)
      ((x : Order) × OfOrder x) ((x : Select) × OfSelect x) Oql Filter Key Named Order Select (λ e. e.0) (λ e. e.0)
      (λ e. e.0) (λ e. e.0) (λ e. e.0) (λ e. e.0) p ≡ x → OfOrder (roll-Order x)
  step_order x p is =
      subst (λ z. OfOrder (roll-Order z)) is
      (of_order _ (zip_held OfKey AgreesK (key any_size w) (key (within lo hi) w) (λ x h. h) p.keys))

  abbrev select_trees : Select-F ((x : Oql) × OfOql x) ((x : Filter) × OfFilter x) ((x : Key) × OfKey x)
      ((x : Named) × OfNamed x) ((x : Order) × OfOrder x) ((x : Select) × OfSelect x)
      → Select-F Oql Filter Key Named Order Select
  select_trees p =
      map-Select ((x : Oql) × OfOql x) ((x : Filter) × OfFilter x) ((x : Key) × OfKey x) ((x : Named) × OfNamed x)
      ((x : Order) × OfOrder x) ((x : Select) × OfSelect x) Oql Filter Key Named Order Select (λ e. e.0) (λ e. e.0)
      (λ e. e.0) (λ e. e.0) (λ e. e.0) (λ e. e.0) p

  select_held : (d : Bool) (v : (x : Oql) × OfOql x) (bs : List ((x : Named) × OfNamed x))
      (f : Option ((x : Filter) × OfFilter x)) (o : Option ((x : Order) × OfOrder x))
      → OfSelect (roll-Select (select_trees (record { distinct = d; value = v; sources = bs; filter = f; order = o })))
  select_held d v bs None None =
      of_select _ v.1 (zip_held OfNamed AgreesN (named any_size w) (named (within lo hi) w) (λ x h. h) bs) tt tt
  select_held d v bs None (Some o) =
      of_select _ v.1 (zip_held OfNamed AgreesN (named any_size w) (named (within lo hi) w) (λ x h. h) bs) tt o.1
  select_held d v bs (Some f) None =
      of_select _ v.1 (zip_held OfNamed AgreesN (named any_size w) (named (within lo hi) w) (λ x h. h) bs) f.1 tt
  select_held d v bs (Some f) (Some o) =
      of_select _ v.1 (zip_held OfNamed AgreesN (named any_size w) (named (within lo hi) w) (λ x h. h) bs) f.1 o.1

  step_select : (x : Select-F Oql Filter Key Named Order Select)
      (p : Select-F ((x : Oql) × OfOql x) ((x : Filter) × OfFilter x) ((x : Key) × OfKey x) ((x : Named) × OfNamed x)
      ((x : Order) × OfOrder x) ((x : Select) × OfSelect x)) → select_trees p ≡ x → OfSelect (roll-Select x)
  step_select x p is =
      subst (λ z. OfSelect (roll-Select z)) is (select_held p.distinct p.value p.sources p.filter p.order)

  pub agrees_oql : (x : Oql) → OfOql x
  agrees_oql =
      ind-Oql OfOql OfFilter OfKey OfNamed OfOrder OfSelect step_oql step_filter step_key step_named step_order
      step_select

  agrees_named : (x : Named) → OfNamed x
  agrees_named =
      ind-Named OfOql OfFilter OfKey OfNamed OfOrder OfSelect step_oql step_filter step_key step_named step_order
      step_select

  agrees_defines : (ds : List Named) → Zip AgreesN (map (named any_size w) ds) (map (named (within lo hi) w) ds)
  agrees_defines [] = tt
  agrees_defines (d ∷ ds) = (agrees_named d, agrees_defines ds)

  pub agrees_query : (q : Query) → Agrees (query any_size w q) (query (within lo hi) w q)
  agrees_query q =
      agrees_defined _ _ (oql any_size w q.body) (oql (within lo hi) w q.body) (agrees_defines q.defines)
      (agrees_oql q.body) []
