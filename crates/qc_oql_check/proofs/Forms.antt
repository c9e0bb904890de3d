-- The type of each form of a query, by its parts.
use Rattle.std.proofs.Common.{◌≡◌, ℕ, ℤ, Bool, List, map, rules, sym, ap, ◌∙◌}
use Rattle.std.specs.Prelude.{Option, Some, None, Ok, option_map}
use Rattle.qc_types.specs.declared.ty.Ty.TheVariants as ty
use Rattle.qc_types.specs.Schemas.{SchemaOf}
use Rattle.qc_ops.specs.declared.op.Unary.TheVariants as one
use Rattle.qc_typing.specs.Tables.{unary_type}
use Rattle.qc_oql_tree.specs.declared.tree.Oql.{Oql}
use Rattle.qc_oql_tree.specs.declared.tree.Oql.TheVariants as tree
use Rattle.qc_oql_tree.specs.declared.tree.Oql.TheOpen.{Oql-F, Select-F}
use Rattle.qc_oql_tree.specs.declared.tree.Oql.TheViews.{roll-Oql, roll-Select, out-Filter, out-Key, out-Named}
use Rattle.qc_oql_tree.specs.declared.tree.Oql.TheViews.{out-Order, out-Select, the_lemmas}
use Rattle.qc_oql_tree.specs.declared.tree.Oql.TheFolds.{fold-roll-Oql, fold-roll-Select, fold_out-Filter, fold_out-Key}
use Rattle.qc_oql_tree.specs.declared.tree.Oql.TheFolds.{fold_out-Named, fold_out-Order, map-Oql}
use Rattle.qc_oql_tree.specs.declared.tree.Filter.{Filter}
use Rattle.qc_oql_tree.specs.declared.tree.Key.{Key}
use Rattle.qc_oql_tree.specs.declared.tree.Named.{Named}
use Rattle.qc_oql_tree.specs.declared.tree.Order.{Order}
use Rattle.qc_oql_tree.specs.declared.tree.Select.{Select}
use Rattle.qc_oql_tree.specs.declared.tree.Binary.{Binary}
use Rattle.qc_oql_tree.specs.declared.tree.Branding.{Branding}
use Rattle.qc_oql_tree.specs.declared.tree.Constant.{Constant}
use Rattle.qc_oql_tree.specs.declared.tree.Division.{Division}
use Rattle.qc_oql_tree.specs.declared.tree.Quantifier.{Quantifier}
use Rattle.qc_oql_tree.specs.declared.tree.Unary.{Unary}
use Rattle.qc_oql_tree.specs.FormTypings.{Types, Typing, NamedTyping, FilterTyping, OrderTyping, type_of, type_after}
use Rattle.qc_oql_tree.specs.FormTypings.{type_of_both, matched_type, chosen_type, quantified_type, collected_type}
use Rattle.qc_oql_tree.specs.FormTypings.{structured_type, selected_type, type_beside}
use Rattle.qc_oql_tree.specs.OperatorTypes.{constant_type, one_type, two_type, divided_type, field_type, branded_type}
use Rattle.qc_oql_tree.specs.Typing.{form_type, filter_typing, key_typing, named_typing, order_typing, select_typing}
use Rattle.qc_oql_tree.specs.Typing.{oql_type, filter_type, key_type, named_type, order_type, select_type}

module _ (c : SchemaOf) where
  layer : (x : Oql-F Oql Filter Key Named Order Select) (t : Oql) → roll-Oql x ≡ t
      → oql_type c t ≡ form_type c (map-Oql Oql Filter Key Named Order Select Typing FilterTyping Typing NamedTyping
      OrderTyping Typing (oql_type c) (filter_type c) (key_type c) (named_type c) (order_type c) (select_type c) x)
  layer x t e =
      ap (oql_type c) (sym e) ∙ fold-roll-Oql Typing FilterTyping Typing NamedTyping OrderTyping Typing
      (form_type c) filter_typing key_typing named_typing order_typing (select_typing c) x

  pub oql-Name : (at : ℕ) (name : List ℕ) → oql_type c (tree.Name at name) ≡ type_of c at name
  oql-Name at name = layer (Oql-F.Name at name) (tree.Name at name) (search (rules, the_lemmas))

  pub oql-Whole : (at : ℕ) (n : ℤ) (s : Types) → oql_type c (tree.Whole at n) s ≡ Ok ty.Int
  oql-Whole at n s = ap (λ f. f s) (layer (Oql-F.Whole at n) (tree.Whole at n) (search (rules, the_lemmas)))

  pub oql-Text : (at : ℕ) (text : List ℕ) (s : Types) → oql_type c (tree.Text at text) s ≡ Ok ty.Text
  oql-Text at text s = ap (λ f. f s) (layer (Oql-F.Text at text) (tree.Text at text) (search (rules, the_lemmas)))

  pub oql-Constant : (at : ℕ) (k : Constant) (s : Types) → oql_type c (tree.Constant at k) s ≡ Ok (constant_type k)
  oql-Constant at k s = ap (λ f. f s) (layer (Oql-F.Constant at k) (tree.Constant at k) (search (rules, the_lemmas)))

  pub oql-Struct : (at : ℕ) (fields : List Named)
      → oql_type c (tree.Struct at fields) ≡ structured_type (map (named_type c) fields)
  oql-Struct at fields = layer (Oql-F.Struct at fields) (tree.Struct at fields) (search (rules, the_lemmas))

  pub oql-Bag : (at : ℕ) (members : List Oql)
      → oql_type c (tree.Bag at members) ≡ collected_type c.classes at (map (oql_type c) members)
  oql-Bag at members = layer (Oql-F.Bag at members) (tree.Bag at members) (search (rules, the_lemmas))

  pub oql-Unary : (at : ℕ) (op : Unary) (a : Oql)
      → oql_type c (tree.Unary at op a) ≡ type_after at (one_type c.classes op) (oql_type c a)
  oql-Unary at op a = layer (Oql-F.Unary at op a) (tree.Unary at op a) (search (rules, the_lemmas))

  pub oql-Binary : (at : ℕ) (op : Binary) (a b : Oql)
      → oql_type c (tree.Binary at op a b) ≡ type_of_both at (two_type c.classes op) (oql_type c a) (oql_type c b)
  oql-Binary at op a b = layer (Oql-F.Binary at op a b) (tree.Binary at op a b) (search (rules, the_lemmas))

  pub oql-Divide : (at : ℕ) (d : Division) (a : Oql) (k : ℤ)
      → oql_type c (tree.Divide at d a k) ≡ type_after at (divided_type c.classes d k) (oql_type c a)
  oql-Divide at d a k = layer (Oql-F.Divide at d a k) (tree.Divide at d a k) (search (rules, the_lemmas))

  pub oql-Like : (at : ℕ) (a : Oql) (pattern : List ℕ)
      → oql_type c (tree.Like at a pattern) ≡ type_after at (unary_type c.classes (one.Like pattern)) (oql_type c a)
  oql-Like at a pattern = layer (Oql-F.Like at a pattern) (tree.Like at a pattern) (search (rules, the_lemmas))

  pub oql-Dot : (at : ℕ) (a : Oql) (label : List ℕ)
      → oql_type c (tree.Dot at a label) ≡ type_after at (field_type c.classes label) (oql_type c a)
  oql-Dot at a label = layer (Oql-F.Dot at a label) (tree.Dot at a label) (search (rules, the_lemmas))

  pub oql-Brand : (at : ℕ) (b : Branding) (class : List ℕ) (a : Oql)
      → oql_type c (tree.Brand at b class a) ≡ type_after at (branded_type c.classes b class) (oql_type c a)
  oql-Brand at b class a = layer (Oql-F.Brand at b class a) (tree.Brand at b class a) (search (rules, the_lemmas))

  pub oql-Match : (at : ℕ) (a : Oql) (l r : Named)
      → oql_type c (tree.Match at a l r) ≡ matched_type c.classes at (oql_type c a) (named_type c l) (named_type c r)
  oql-Match at a l r = layer (Oql-F.Match at a l r) (tree.Match at a l r) (search (rules, the_lemmas))

  pub oql-If : (at : ℕ) (test a b : Oql)
      → oql_type c (tree.If at test a b) ≡ chosen_type c.classes at (oql_type c test) (oql_type c a) (oql_type c b)
  oql-If at test a b = layer (Oql-F.If at test a b) (tree.If at test a b) (search (rules, the_lemmas))

  pub oql-Quantified : (at : ℕ) (q : Quantifier) (source : Named) (test : Oql)
      → oql_type c (tree.Quantified at q source test)
      ≡ quantified_type c.classes at (named_type c source) (oql_type c test)
  oql-Quantified at q source test =
      layer (Oql-F.Quantified at q source test) (tree.Quantified at q source test) (search (rules, the_lemmas))

  pub oql-Select : (at : ℕ) (x : Select) → oql_type c (tree.Select at x) ≡ select_type c x
  oql-Select at x = layer (Oql-F.Select at x) (tree.Select at x) (search (rules, the_lemmas))

  -- ---- the structs of trees

  pub named_is : (n : Named) → named_type c n ≡ record {
    at = (out-Named n).at;
    name = (out-Named n).name;
    of = type_beside (out-Named n).at (out-Named n).name (oql_type c (out-Named n).of);
  }
  named_is n =
      fold_out-Named Typing FilterTyping Typing NamedTyping OrderTyping Typing
      (form_type c) filter_typing key_typing named_typing order_typing (select_typing c) n

  pub named_name : (n : Named) → (named_type c n).name ≡ (out-Named n).name
  named_name n = ap (λ a. a.name) (named_is n)

  pub filter_is : (f : Filter) → filter_type c f
      ≡ record { at = (out-Filter f).at; test = oql_type c (out-Filter f).test }
  filter_is f =
      fold_out-Filter Typing FilterTyping Typing NamedTyping OrderTyping Typing
      (form_type c) filter_typing key_typing named_typing order_typing (select_typing c) f

  pub key_is : (k : Key) → key_type c k ≡ oql_type c (out-Key k).of
  key_is k =
      fold_out-Key Typing FilterTyping Typing NamedTyping OrderTyping Typing
      (form_type c) filter_typing key_typing named_typing order_typing (select_typing c) k

  pub order_is : (o : Order) → order_type c o
      ≡ record { at = (out-Order o).at; keys = map (key_type c) (out-Order o).keys }
  order_is o =
      fold_out-Order Typing FilterTyping Typing NamedTyping OrderTyping Typing
      (form_type c) filter_typing key_typing named_typing order_typing (select_typing c) o

  select_parts : (d : Bool) (v : Oql) (bs : List Named) (f : Option Filter) (o : Option Order)
      → select_type c (roll-Select (record { distinct = d; value = v; sources = bs; filter = f; order = o }))
      ≡ selected_type c.classes (oql_type c v) (map (named_type c) bs) (option_map (filter_type c) f)
      (option_map (order_type c) o)
  select_parts d v bs None None =
      fold-roll-Select Typing FilterTyping Typing NamedTyping OrderTyping Typing
      (form_type c) filter_typing key_typing named_typing order_typing (select_typing c)
      (record { distinct = d; value = v; sources = bs; filter = None; order = None })
  select_parts d v bs None (Some o) =
      fold-roll-Select Typing FilterTyping Typing NamedTyping OrderTyping Typing
      (form_type c) filter_typing key_typing named_typing order_typing (select_typing c)
      (record { distinct = d; value = v; sources = bs; filter = None; order = Some o })
  select_parts d v bs (Some f) None =
      fold-roll-Select Typing FilterTyping Typing NamedTyping OrderTyping Typing
      (form_type c) filter_typing key_typing named_typing order_typing (select_typing c)
      (record { distinct = d; value = v; sources = bs; filter = Some f; order = None })
  select_parts d v bs (Some f) (Some o) =
      fold-roll-Select Typing FilterTyping Typing NamedTyping OrderTyping Typing
      (form_type c) filter_typing key_typing named_typing order_typing (select_typing c)
      (record { distinct = d; value = v; sources = bs; filter = Some f; order = Some o })

  select_roll : (x : Select-F Oql Filter Key Named Order Select)
      → select_type c (roll-Select x) ≡ selected_type c.classes (oql_type c x.value) (map (named_type c) x.sources)
      (option_map (filter_type c) x.filter) (option_map (order_type c) x.order)
  select_roll x = select_parts x.distinct x.value x.sources x.filter x.order

  pub select_is : (x : Select)
      → select_type c x ≡ selected_type c.classes (oql_type c (out-Select x).value)
      (map (named_type c) (out-Select x).sources) (option_map (filter_type c) (out-Select x).filter)
      (option_map (order_type c) (out-Select x).order)
  select_is x =
      let e : x ≡ roll-Select (out-Select x) = search (rules, the_lemmas) in
      ap (select_type c) e ∙ select_roll (out-Select x)

-- the layers of trees
pub ruleset layers = the_lemmas
