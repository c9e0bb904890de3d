-- What queries mean, by mode and world.
use Rattle.std.specs.Prelude.{List, [], ◌∷◌, map}
use Rattle.qc_data.specs.Outcome.{Mode, Outcome, Value, and_then}
use Rattle.qc_data.specs.declared.data.Datum.{Datum}
use Rattle.qc_data.specs.declared.data.Datum.TheVariants.{Int, Text}
use Rattle.qc_ops.specs.Records.{field}
use Rattle.qc_ops.specs.Texts.{likeness}
use Rattle.qc_types.specs.Schemas.{WorldOf}
use Rattle.qc_oql_tree.specs.declared.tree.Oql.{Oql}
use Rattle.qc_oql_tree.specs.declared.tree.Oql.TheOpen.{Oql-F, Filter-F, Key-F, Named-F, Order-F, Select-F}
use Rattle.qc_oql_tree.specs.declared.tree.Oql.TheFolds.{fold-Oql, fold-Filter, fold-Key, fold-Named, fold-Order}
use Rattle.qc_oql_tree.specs.declared.tree.Oql.TheFolds.{fold-Select}
use Rattle.qc_oql_tree.specs.declared.tree.Filter.{Filter}
use Rattle.qc_oql_tree.specs.declared.tree.Key.{Key}
use Rattle.qc_oql_tree.specs.declared.tree.Named.{Named}
use Rattle.qc_oql_tree.specs.declared.tree.Order.{Order}
use Rattle.qc_oql_tree.specs.declared.tree.Query.{Query}
use Rattle.qc_oql_tree.specs.declared.tree.Select.{Select}
use Rattle.qc_oql_tree.specs.Bindings.{Meaning, value_of}
use Rattle.qc_oql_tree.specs.OperatorMeanings.{after, one_value, of_two, divided, branded}
use Rattle.qc_oql_tree.specs.FormMeanings.{NamedMeaning, constant, matched, chosen, quantified, collected, structured}
use Rattle.qc_oql_tree.specs.SelectMeaning.{KeyMeaning, selected}

-- an expression, by the meanings of its parts
abbrev pub form : Mode → WorldOf → Oql-F Meaning Meaning KeyMeaning NamedMeaning (List KeyMeaning) Meaning → Meaning
form m w (Oql-F.Name at name) = value_of w name
form m w (Oql-F.Whole at n) = λ s. Value (Int n)
form m w (Oql-F.Text at text) = λ s. Value (Text text)
form m w (Oql-F.Constant at c) = λ s. Value (constant c)
form m w (Oql-F.Struct at fields) = structured fields
form m w (Oql-F.Bag at members) = collected members
form m w (Oql-F.Unary at op a) = after (one_value m w.classes op) a
form m w (Oql-F.Binary at op a b) = of_two m op a b
form m w (Oql-F.Divide at division a k) = after (divided m w.classes division k) a
form m w (Oql-F.Like at a pattern) = after (likeness pattern) a
form m w (Oql-F.Dot at a label) = after (field label) a
form m w (Oql-F.Brand at branding class a) = after (branded m w.classes branding class) a
form m w (Oql-F.Match at a l r) = matched a l r
form m w (Oql-F.If at test a b) = chosen test a b
form m w (Oql-F.Quantified at q source test) = quantified q source test
form m w (Oql-F.Select at select) = select

-- a condition
abbrev pub filter_form : Filter-F Meaning Meaning KeyMeaning NamedMeaning (List KeyMeaning) Meaning → Meaning
filter_form f = f.test

-- a key
abbrev pub key_form : Key-F Meaning Meaning KeyMeaning NamedMeaning (List KeyMeaning) Meaning → KeyMeaning
key_form k = (k.of, k.direction)

-- a name with an expression
abbrev pub named_form : Named-F Meaning Meaning KeyMeaning NamedMeaning (List KeyMeaning) Meaning → NamedMeaning
named_form n = (n.name, n.of)

-- an order
abbrev pub order_form : Order-F Meaning Meaning KeyMeaning NamedMeaning (List KeyMeaning) Meaning → List KeyMeaning
order_form o = o.keys

-- what stands behind `select`
abbrev pub select_form : Select-F Meaning Meaning KeyMeaning NamedMeaning (List KeyMeaning) Meaning → Meaning
select_form x = selected x.distinct x.value x.sources x.filter x.order

module _ (m : Mode) (w : WorldOf) where
  -- the outcome of an expression in a mode and a world, by its bindings
  abbrev pub oql : Oql → Meaning
  oql x =
      fold-Oql Meaning Meaning KeyMeaning NamedMeaning (List KeyMeaning) Meaning
      (form m w) filter_form key_form named_form order_form select_form x

  -- the same of the structs of trees
  abbrev pub filter : Filter → Meaning
  filter x =
      fold-Filter Meaning Meaning KeyMeaning NamedMeaning (List KeyMeaning) Meaning
      (form m w) filter_form key_form named_form order_form select_form x

  abbrev pub key : Key → KeyMeaning
  key x =
      fold-Key Meaning Meaning KeyMeaning NamedMeaning (List KeyMeaning) Meaning
      (form m w) filter_form key_form named_form order_form select_form x

  abbrev pub named : Named → NamedMeaning
  named x =
      fold-Named Meaning Meaning KeyMeaning NamedMeaning (List KeyMeaning) Meaning
      (form m w) filter_form key_form named_form order_form select_form x

  abbrev pub order : Order → List KeyMeaning
  order x =
      fold-Order Meaning Meaning KeyMeaning NamedMeaning (List KeyMeaning) Meaning
      (form m w) filter_form key_form named_form order_form select_form x

  abbrev pub select : Select → Meaning
  select x =
      fold-Select Meaning Meaning KeyMeaning NamedMeaning (List KeyMeaning) Meaning
      (form m w) filter_form key_form named_form order_form select_form x

-- the expression with what is defined, each definition with the earlier ones
abbrev pub defined : List NamedMeaning → Meaning → Meaning
defined [] body s = body s
defined (d ∷ ds) body s = and_then (d.1 s) (λ v. defined ds body ((d.0, v) ∷ s))

-- the outcome of a query in a mode and a world
abbrev pub query : Mode → WorldOf → Query → Outcome Datum
query m w q = defined (map (named m w) q.defines) (oql m w q.body) []
