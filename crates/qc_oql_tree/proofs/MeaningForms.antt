-- What each form of a query means, by its parts.
use Rattle.std.proofs.Common.{◌≡◌, ℕ, ℤ, Bool, List, map, rules, sym, ap, ◌∙◌}
use Rattle.std.specs.Prelude.{Option, Some, None, option_map}
use Rattle.qc_data.specs.Outcome.{Mode, Value}
use Rattle.qc_data.specs.declared.data.Datum.TheVariants.{Int, Text}
use Rattle.qc_ops.specs.Records.{field}
use Rattle.qc_ops.specs.Texts.{likeness}
use Rattle.qc_types.specs.Schemas.{WorldOf}
use Rattle.qc_oql_tree.specs.declared.tree.Oql.{Oql}
use Rattle.qc_oql_tree.specs.declared.tree.Oql.TheVariants as tree
use Rattle.qc_oql_tree.specs.declared.tree.Oql.TheOpen.{Oql-F, Select-F}
use Rattle.qc_oql_tree.specs.declared.tree.Oql.TheViews.{roll-Oql, roll-Select, out-Filter, out-Key, out-Named}
use Rattle.qc_oql_tree.specs.declared.tree.Oql.TheViews.{out-Order, out-Select, the_lemmas}
use Rattle.qc_oql_tree.specs.declared.tree.Oql.TheFolds.{fold-roll-Oql, fold-roll-Select, fold_out-Filter, fold_out-Key}
use Rattle.qc_oql_tree.specs.declared.tree.Oql.TheFolds.{fold_out-Named, fold_out-Order, map-Oql}
use Rattle.qc_oql_tree.specs.declared.tree.Filter.{Filter}
use Rattle.qc_oql_tree.specs.declared.tree.Key.{Key}
use Rattle.qc_oql_tree.specs.declared.tree.Named.{Named}
use Rattle.qc_oql_tree.specs.declared.tree.Order.{Order}
use Rattle.qc_oql_tree.specs.declared.tree.Select.{Select}
use Rattle.qc_oql_tree.specs.declared.tree.Binary.{Binary}
use Rattle.qc_oql_tree.specs.declared.tree.Branding.{Branding}
use Rattle.qc_oql_tree.specs.declared.tree.Constant.{Constant}
use Rattle.qc_oql_tree.specs.declared.tree.Division.{Division}
use Rattle.qc_oql_tree.specs.declared.tree.Quantifier.{Quantifier}
use Rattle.qc_oql_tree.specs.declared.tree.Unary.{Unary}
use Rattle.qc_oql_tree.specs.Bindings.{Bindings, Meaning, value_of}
use Rattle.qc_oql_tree.specs.FormMeanings.{NamedMeaning, constant, matched, chosen, quantified, collected, structured}
use Rattle.qc_oql_tree.specs.OperatorMeanings.{after, one_value, of_two, divided, branded}
use Rattle.qc_oql_tree.specs.SelectMeaning.{KeyMeaning, selected}
use Rattle.qc_oql_tree.specs.Meaning.{form, filter_form, key_form, named_form, order_form, select_form, oql, filter}
use Rattle.qc_oql_tree.specs.Meaning.{key, named, order, select}

module _ (m : Mode) (w : WorldOf) where
  layer : (x : Oql-F Oql Filter Key Named Order Select) (t : Oql) → roll-Oql x ≡ t
      → oql m w t ≡ form m w (map-Oql Oql Filter Key Named Order Select Meaning Meaning KeyMeaning NamedMeaning
      (List KeyMeaning) Meaning (oql m w) (filter m w) (key m w) (named m w) (order m w) (select m w) x)
  layer x t e =
      ap (oql m w) (sym e) ∙ fold-roll-Oql Meaning Meaning KeyMeaning NamedMeaning (List KeyMeaning) Meaning
      (form m w) filter_form key_form named_form order_form select_form x

  pub oql-Name : (at : ℕ) (name : List ℕ) → oql m w (tree.Name at name) ≡ value_of w name
  oql-Name at name = layer (Oql-F.Name at name) (tree.Name at name) (search (rules, the_lemmas))

  pub oql-Whole : (at : ℕ) (n : ℤ) (s : Bindings) → oql m w (tree.Whole at n) s ≡ Value (Int n)
  oql-Whole at n s = ap (λ f. f s) (layer (Oql-F.Whole at n) (tree.Whole at n) (search (rules, the_lemmas)))

  pub oql-Text : (at : ℕ) (text : List ℕ) (s : Bindings) → oql m w (tree.Text at text) s ≡ Value (Text text)
  oql-Text at text s = ap (λ f. f s) (layer (Oql-F.Text at text) (tree.Text at text) (search (rules, the_lemmas)))

  pub oql-Constant : (at : ℕ) (c : Constant) (s : Bindings) → oql m w (tree.Constant at c) s ≡ Value (constant c)
  oql-Constant at c s = ap (λ f. f s) (layer (Oql-F.Constant at c) (tree.Constant at c) (search (rules, the_lemmas)))

  pub oql-Struct : (at : ℕ) (fields : List Named)
      → oql m w (tree.Struct at fields) ≡ structured (map (named m w) fields)
  oql-Struct at fields = layer (Oql-F.Struct at fields) (tree.Struct at fields) (search (rules, the_lemmas))

  pub oql-Bag : (at : ℕ) (members : List Oql) → oql m w (tree.Bag at members) ≡ collected (map (oql m w) members)
  oql-Bag at members = layer (Oql-F.Bag at members) (tree.Bag at members) (search (rules, the_lemmas))

  pub oql-Unary : (at : ℕ) (op : Unary) (a : Oql)
      → oql m w (tree.Unary at op a) ≡ after (one_value m w.classes op) (oql m w a)
  oql-Unary at op a = layer (Oql-F.Unary at op a) (tree.Unary at op a) (search (rules, the_lemmas))

  pub oql-Binary : (at : ℕ) (op : Binary) (a b : Oql)
      → oql m w (tree.Binary at op a b) ≡ of_two m op (oql m w a) (oql m w b)
  oql-Binary at op a b = layer (Oql-F.Binary at op a b) (tree.Binary at op a b) (search (rules, the_lemmas))

  pub oql-Divide : (at : ℕ) (d : Division) (a : Oql) (k : ℤ)
      → oql m w (tree.Divide at d a k) ≡ after (divided m w.classes d k) (oql m w a)
  oql-Divide at d a k = layer (Oql-F.Divide at d a k) (tree.Divide at d a k) (search (rules, the_lemmas))

  pub oql-Like : (at : ℕ) (a : Oql) (pattern : List ℕ)
      → oql m w (tree.Like at a pattern) ≡ after (likeness pattern) (oql m w a)
  oql-Like at a pattern = layer (Oql-F.Like at a pattern) (tree.Like at a pattern) (search (rules, the_lemmas))

  pub oql-Dot : (at : ℕ) (a : Oql) (label : List ℕ) → oql m w (tree.Dot at a label) ≡ after (field label) (oql m w a)
  oql-Dot at a label = layer (Oql-F.Dot at a label) (tree.Dot at a label) (search (rules, the_lemmas))

  pub oql-Brand : (at : ℕ) (b : Branding) (class : List ℕ) (a : Oql)
      → oql m w (tree.Brand at b class a) ≡ after (branded m w.classes b class) (oql m w a)
  oql-Brand at b class a = layer (Oql-F.Brand at b class a) (tree.Brand at b class a) (search (rules, the_lemmas))

  pub oql-Match : (at : ℕ) (a : Oql) (l r : Named)
      → oql m w (tree.Match at a l r) ≡ matched (oql m w a) (named m w l) (named m w r)
  oql-Match at a l r = layer (Oql-F.Match at a l r) (tree.Match at a l r) (search (rules, the_lemmas))

  pub oql-If : (at : ℕ) (test a b : Oql) → oql m w (tree.If at test a b) ≡ chosen (oql m w test) (oql m w a) (oql m w b)
  oql-If at test a b = layer (Oql-F.If at test a b) (tree.If at test a b) (search (rules, the_lemmas))

  pub oql-Quantified : (at : ℕ) (q : Quantifier) (source : Named) (test : Oql)
      → oql m w (tree.Quantified at q source test) ≡ quantified q (named m w source) (oql m w test)
  oql-Quantified at q source test =
      layer (Oql-F.Quantified at q source test) (tree.Quantified at q source test) (search (rules, the_lemmas))

  pub oql-Select : (at : ℕ) (x : Select) → oql m w (tree.Select at x) ≡ select m w x
  oql-Select at x = layer (Oql-F.Select at x) (tree.Select at x) (search (rules, the_lemmas))

  -- ---- the structs of trees

  pub named_is : (n : Named) → named m w n ≡ ((out-Named n).name, oql m w (out-Named n).of)
  named_is n =
      fold_out-Named Meaning Meaning KeyMeaning NamedMeaning (List KeyMeaning) Meaning
      (form m w) filter_form key_form named_form order_form select_form n

  pub named_name : (n : Named) → (named m w n).0 ≡ (out-Named n).name
  named_name n = ap (λ a. a.0) (named_is n)

  pub filter_is : (f : Filter) → filter m w f ≡ oql m w (out-Filter f).test
  filter_is f =
      fold_out-Filter Meaning Meaning KeyMeaning NamedMeaning (List KeyMeaning) Meaning
      (form m w) filter_form key_form named_form order_form select_form f

  pub key_is : (k : Key) → key m w k ≡ (oql m w (out-Key k).of, (out-Key k).direction)
  key_is k =
      fold_out-Key Meaning Meaning KeyMeaning NamedMeaning (List KeyMeaning) Meaning
      (form m w) filter_form key_form named_form order_form select_form k

  pub order_is : (o : Order) → order m w o ≡ map (key m w) (out-Order o).keys
  order_is o =
      fold_out-Order Meaning Meaning KeyMeaning NamedMeaning (List KeyMeaning) Meaning
      (form m w) filter_form key_form named_form order_form select_form o

  select_parts : (d : Bool) (v : Oql) (bs : List Named) (f : Option Filter) (o : Option Order)
      → select m w (roll-Select (record { distinct = d; value = v; sources = bs; filter = f; order = o }))
      ≡ selected d (oql m w v) (map (named m w) bs) (option_map (filter m w) f) (option_map (order m w) o)
  select_parts d v bs None None =
      fold-roll-Select Meaning Meaning KeyMeaning NamedMeaning (List KeyMeaning) Meaning
      (form m w) filter_form key_form named_form order_form select_form
      (record { distinct = d; value = v; sources = bs; filter = None; order = None })
  select_parts d v bs None (Some o) =
      fold-roll-Select Meaning Meaning KeyMeaning NamedMeaning (List KeyMeaning) Meaning
      (form m w) filter_form key_form named_form order_form select_form
      (record { distinct = d; value = v; sources = bs; filter = None; order = Some o })
  select_parts d v bs (Some f) None =
      fold-roll-Select Meaning Meaning KeyMeaning NamedMeaning (List KeyMeaning) Meaning
      (form m w) filter_form key_form named_form order_form select_form
      (record { distinct = d; value = v; sources = bs; filter = Some f; order = None })
  select_parts d v bs (Some f) (Some o) =
      fold-roll-Select Meaning Meaning KeyMeaning NamedMeaning (List KeyMeaning) Meaning
      (form m w) filter_form key_form named_form order_form select_form
      (record { distinct = d; value = v; sources = bs; filter = Some f; order = Some o })

  pub select_roll : (x : Select-F Oql Filter Key Named Order Select)
      → select m w (roll-Select x) ≡ selected x.distinct (oql m w x.value) (map (named m w) x.sources)
      (option_map (filter m w) x.filter) (option_map (order m w) x.order)
  select_roll x = select_parts x.distinct x.value x.sources x.filter x.order

  pub select_is : (x : Select)
      → select m w x ≡ selected (out-Select x).distinct (oql m w (out-Select x).value)
      (map (named m w) (out-Select x).sources) (option_map (filter m w) (out-Select x).filter)
      (option_map (order m w) (out-Select x).order)
  select_is x =
      let e : x ≡ roll-Select (out-Select x) = search (rules, the_lemmas) in
      ap (select m w) e ∙ select_roll (out-Select x)
