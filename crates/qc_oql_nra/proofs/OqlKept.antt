-- The tree for a query keeps its value, in each mode and world.
use Rattle.std.proofs.Common.{◌≡◌, List, [], ◌∷◌, map, refl}
use Rattle.std.specs.Prelude.{Option, Some, None, option_map}
use Rattle.qc_data.proofs.Outcomes.{kept_same}
use Rattle.qc_data.specs.Outcome.{Mode, IsKept}
use Rattle.qc_data.specs.declared.data.Datum.TheVariants.{Int, Rec, Text, Unit as Nothing}
use Rattle.qc_nra.specs.Meaning.{nra}
use Rattle.qc_ops.specs.declared.op.Unary.TheVariants as one
use Rattle.qc_ops.specs.Records.{field}
use Rattle.qc_ops.specs.Texts.{likeness}
use Rattle.qc_types.proofs.Inductions.{AllOf}
use Rattle.qc_types.specs.Schemas.{WorldOf}
use Rattle.qc_oql_tree.specs.declared.tree.Oql.{Oql}
use Rattle.qc_oql_tree.specs.declared.tree.Oql.TheOpen.{Oql-F, Filter-F, Key-F, Named-F, Order-F, Select-F}
use Rattle.qc_oql_tree.specs.declared.tree.Oql.TheViews.{roll-Oql, roll-Filter, roll-Key, roll-Named, roll-Order}
use Rattle.qc_oql_tree.specs.declared.tree.Oql.TheViews.{roll-Select}
use Rattle.qc_oql_tree.specs.declared.tree.Oql.TheFolds.{fold-roll-Oql, fold-roll-Filter, fold-roll-Key}
use Rattle.qc_oql_tree.specs.declared.tree.Oql.TheFolds.{fold-roll-Named, fold-roll-Order, map-Oql}
use Rattle.qc_oql_tree.specs.declared.tree.Filter.{Filter}
use Rattle.qc_oql_tree.specs.declared.tree.Key.{Key}
use Rattle.qc_oql_tree.specs.declared.tree.Named.{Named}
use Rattle.qc_oql_tree.specs.declared.tree.Order.{Order}
use Rattle.qc_oql_tree.specs.declared.tree.Query.{Query}
use Rattle.qc_oql_tree.specs.declared.tree.Select.{Select}
use Rattle.qc_oql_tree.specs.Bindings.{Meaning}
use Rattle.qc_oql_tree.specs.FormMeanings.{NamedMeaning, constant}
use Rattle.qc_oql_tree.specs.SelectMeaning.{KeyMeaning}
use Rattle.qc_oql_tree.specs.Meaning.{form, filter_form, key_form, named_form, order_form, select_form, oql, filter}
use Rattle.qc_oql_tree.specs.Meaning.{key, named, order, select, query}
use Rattle.qc_oql_tree.proofs.MeaningForms.{select_roll}
use Rattle.qc_oql_nra.specs.OqlForms.{Translation, NamedTranslation, KeyTranslation}
use Rattle.qc_oql_nra.specs.OqlTrees.{oql_tree, filter_tree, key_tree, named_tree, order_tree, part_tree}
use Rattle.qc_oql_nra.specs.OqlTrees.{query_tree}
use Rattle.qc_oql_nra.specs.OqlTrees as trees
use Rattle.qc_oql_nra.proofs.Environments.{Same, SameNamed, nothing_bound, same_name}
use Rattle.qc_oql_nra.proofs.KeptLaws.{Zip}
use Rattle.qc_oql_nra.proofs.NraForms.{nra-Const}
use Rattle.qc_oql_nra.proofs.OqlFormsKept.{same_bag, same_if, same_match, same_quantified, same_struct}
use Rattle.qc_oql_nra.proofs.OqlInduction.{OfSome, PartsHold, all_named, all_oql}
use Rattle.qc_oql_nra.proofs.OqlOperators.{same_after, same_branded, same_divided, same_one, same_two}
use Rattle.qc_oql_nra.proofs.OqlOrder.{SameKey}
use Rattle.qc_oql_nra.proofs.OqlSelect.{Beside}
use Rattle.qc_oql_nra.proofs.OqlSelected.{same_defined, same_selected}
use Rattle.qc_oql_nra.proofs.OqlTreeForms.{select_roll as part_roll}

module _ (m : Mode) (w : WorldOf) where
  -- ---- the claim of each type of the trees

  abbrev OfOql : Oql → Type 0
  OfOql x = Same m w (oql m w x) (oql_tree x)

  abbrev OfFilter : Filter → Type 0
  OfFilter x = Same m w (filter m w x) (filter_tree x)

  abbrev OfKey : Key → Type 0
  OfKey x = SameKey m w (key m w x) (key_tree x)

  abbrev OfNamed : Named → Type 0
  OfNamed x = SameNamed m w (named m w x) (named_tree x)

  abbrev OfOrder : Order → Type 0
  OfOrder x = Zip (SameKey m w) (order m w x) (order_tree x)

  abbrev OfSelect : Select → Type 0
  OfSelect x = Same m w (select m w x) (part_tree x)

  -- ---- lists of parts with their claims

  zip_of : {X A B : Type 0} (P : X → Type 0) (R : A → B → Type 0) (h : X → A) (k : X → B)
      → ((x : X) → P x → R (h x) (k x)) → (xs : List X) → AllOf P xs → Zip R (map h xs) (map k xs)
  zip_of P R h k f [] all = tt
  zip_of P R h k f (x ∷ xs) all = (f x all.0, zip_of P R h k f xs all.1)

  beside_of : {X A B : Type 0} (P : X → Type 0) (R : A → B → Type 0) (h : X → A) (k : X → B)
      → ((x : X) → P x → R (h x) (k x)) → (o : Option X) → OfSome P o → Beside R (option_map h o) (option_map k o)
  beside_of P R h k f None p = tt
  beside_of P R h k f (Some x) p = f x p

  abbrev value_at : Oql-F Oql Filter Key Named Order Select → Meaning
  value_at x =
      form m w (map-Oql Oql Filter Key Named Order Select Meaning Meaning KeyMeaning NamedMeaning
      (List KeyMeaning) Meaning (oql m w) (filter m w) (key m w) (named m w) (order m w) (select m w) x)

  abbrev tree_at : Oql-F Oql Filter Key Named Order Select → Translation
  tree_at x =
      trees.form (map-Oql Oql Filter Key Named Order Select Translation Translation KeyTranslation NamedTranslation
      (List KeyTranslation) Translation oql_tree filter_tree key_tree named_tree order_tree part_tree x)

  layer : (x : Oql-F Oql Filter Key Named Order Select) → PartsHold OfOql OfFilter OfKey OfNamed OfOrder OfSelect x
      → Same m w (value_at x) (tree_at x)
  layer (Oql-F.Name at name) h = same_name m w name
  layer (Oql-F.Whole at n) h = λ ns s d k i. nra-Const m w (Int n) i d
  layer (Oql-F.Text at text) h = λ ns s d k i. nra-Const m w (Text text) i d
  layer (Oql-F.Constant at c) h = λ ns s d k i. nra-Const m w (constant c) i d
  layer (Oql-F.Struct at fs) h =
      same_struct m w _ _ (zip_of OfNamed (SameNamed m w) (named m w) named_tree (λ x k. k) fs h)
  layer (Oql-F.Bag at xs) h = same_bag m w _ _ (zip_of OfOql (Same m w) (oql m w) oql_tree (λ x k. k) xs h)
  layer (Oql-F.Unary at op a) h = same_one m w op (oql m w a) (oql_tree a) h
  layer (Oql-F.Binary at op a b) h = same_two m w op (oql m w a) (oql m w b) (oql_tree a) (oql_tree b) h.0 h.1
  layer (Oql-F.Divide at q a k) h = same_divided m w q k (oql m w a) (oql_tree a) h
  layer (Oql-F.Like at a pattern) h =
      same_after m w (likeness pattern) (one.Like pattern) (oql m w a) (oql_tree a)
      (λ v. kept_same (likeness pattern v))
      h
  layer (Oql-F.Dot at a label) h =
      same_after m w (field label) (one.Dot label) (oql m w a) (oql_tree a) (λ v. kept_same (field label v)) h
  layer (Oql-F.Brand at b class a) h = same_branded m w b class (oql m w a) (oql_tree a) h
  layer (Oql-F.Match at a l r) h =
      same_match m w (oql m w a) (named m w l) (named m w r) (oql_tree a) (named_tree l) (named_tree r) h.0 h.1 h.2
  layer (Oql-F.If at t a b) h =
      same_if m w (oql m w t) (oql m w a) (oql m w b) (oql_tree t) (oql_tree a) (oql_tree b) h.0 h.1 h.2
  layer (Oql-F.Quantified at q a t) h =
      same_quantified m w q (named m w a) (named_tree a) (oql m w t) (oql_tree t) h.0 h.1
  layer (Oql-F.Select at x) h = h

  -- ---- each type of the trees, at its outermost layer

  of_oql : (x : Oql-F Oql Filter Key Named Order Select) → PartsHold OfOql OfFilter OfKey OfNamed OfOrder OfSelect x
      → OfOql (roll-Oql x)
  of_oql x h =
      let meaning : oql m w (roll-Oql x) ≡ value_at x =
      fold-roll-Oql Meaning Meaning KeyMeaning NamedMeaning (List KeyMeaning) Meaning
      (form m w) filter_form key_form named_form order_form select_form x in
      let made : oql_tree (roll-Oql x) ≡ tree_at x =
      fold-roll-Oql Translation Translation KeyTranslation NamedTranslation (List KeyTranslation) Translation
      trees.form trees.filter_form trees.key_form trees.named_form trees.order_form trees.select_form x in
      rw (meaning, made) (layer x h)

  of_filter : (x : Filter-F Oql Filter Key Named Order Select) → OfOql x.test → OfFilter (roll-Filter x)
  of_filter x h =
      let meaning : filter m w (roll-Filter x) ≡ oql m w x.test =
      fold-roll-Filter Meaning Meaning KeyMeaning NamedMeaning (List KeyMeaning) Meaning
      (form m w) filter_form key_form named_form order_form select_form x in
      let made : filter_tree (roll-Filter x) ≡ oql_tree x.test =
      fold-roll-Filter Translation Translation KeyTranslation NamedTranslation (List KeyTranslation) Translation
      trees.form trees.filter_form trees.key_form trees.named_form trees.order_form trees.select_form x in
      rw (meaning, made) h

  of_key : (x : Key-F Oql Filter Key Named Order Select) → OfOql x.of → OfKey (roll-Key x)
  of_key x h =
      let meaning : key m w (roll-Key x) ≡ (oql m w x.of, x.direction) =
      fold-roll-Key Meaning Meaning KeyMeaning NamedMeaning (List KeyMeaning) Meaning
      (form m w) filter_form key_form named_form order_form select_form x in
      let made : key_tree (roll-Key x) ≡ (oql_tree x.of, x.direction) =
      fold-roll-Key Translation Translation KeyTranslation NamedTranslation (List KeyTranslation) Translation
      trees.form trees.filter_form trees.key_form trees.named_form trees.order_form trees.select_form x in
      rw (meaning, made) (refl, h)

  of_named : (x : Named-F Oql Filter Key Named Order Select) → OfOql x.of → OfNamed (roll-Named x)
  of_named x h =
      let meaning : named m w (roll-Named x) ≡ (x.name, oql m w x.of) =
      fold-roll-Named Meaning Meaning KeyMeaning NamedMeaning (List KeyMeaning) Meaning
      (form m w) filter_form key_form named_form order_form select_form x in
      let made : named_tree (roll-Named x) ≡ (x.name, oql_tree x.of) =
      fold-roll-Named Translation Translation KeyTranslation NamedTranslation (List KeyTranslation) Translation
      trees.form trees.filter_form trees.key_form trees.named_form trees.order_form trees.select_form x in
      rw (meaning, made) (refl, h)

  of_order : (x : Order-F Oql Filter Key Named Order Select) → AllOf OfKey x.keys → OfOrder (roll-Order x)
  of_order x h =
      let meaning : order m w (roll-Order x) ≡ map (key m w) x.keys =
      fold-roll-Order Meaning Meaning KeyMeaning NamedMeaning (List KeyMeaning) Meaning
      (form m w) filter_form key_form named_form order_form select_form x in
      let made : order_tree (roll-Order x) ≡ map key_tree x.keys =
      fold-roll-Order Translation Translation KeyTranslation NamedTranslation (List KeyTranslation) Translation
      trees.form trees.filter_form trees.key_form trees.named_form trees.order_form trees.select_form x in
      rw (meaning, made) (zip_of OfKey (SameKey m w) (key m w) key_tree (λ x k. k) x.keys h)

  of_select : (x : Select-F Oql Filter Key Named Order Select) → OfOql x.value → AllOf OfNamed x.sources
      → OfSome OfFilter x.filter → OfSome OfOrder x.order → OfSelect (roll-Select x)
  of_select x h i j k =
      rw (select_roll m w x, part_roll x)
      (same_selected m w x.distinct (oql m w x.value) (map (named m w) x.sources) (option_map (filter m w) x.filter)
      (option_map (order m w) x.order) (oql_tree x.value) (map named_tree x.sources)
      (option_map filter_tree x.filter) (option_map order_tree x.order) h
      (zip_of OfNamed (SameNamed m w) (named m w) named_tree (λ x k. k) x.sources i)
      (beside_of OfFilter (Same m w) (filter m w) filter_tree (λ x k. k) x.filter j)
      (beside_of OfOrder (Zip (SameKey m w)) (order m w) order_tree (λ x k. k) x.order k))

  -- ---- by induction

  kept_oql : (x : Oql) → OfOql x
  kept_oql =
      all_oql OfOql OfFilter OfKey OfNamed OfOrder OfSelect of_oql of_filter of_key of_named of_order of_select

  kept_named : (x : Named) → OfNamed x
  kept_named =
      all_named OfOql OfFilter OfKey OfNamed OfOrder OfSelect of_oql of_filter of_key of_named of_order of_select

  kept_defines : (ds : List Named) → Zip (SameNamed m w) (map (named m w) ds) (map named_tree ds)
  kept_defines [] = tt
  kept_defines (x ∷ ds) = (kept_named x, kept_defines ds)

  -- at the input and the environment of a whole tree
  pub kept_query : (q : Query) → IsKept (query m w q) (nra m w (query_tree q) Nothing (Rec []))
  kept_query q =
      same_defined m w (map (named m w) q.defines) (map named_tree q.defines) (oql m w q.body) (oql_tree q.body)
      (kept_defines q.defines) (kept_oql q.body) [] [] (Rec []) nothing_bound Nothing
