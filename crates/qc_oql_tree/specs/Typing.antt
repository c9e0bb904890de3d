-- The types of queries in a schema, and the places of their first faults.
use Rattle.std.specs.Prelude.{ℕ, List, [], ◌∷◌, map, Result, Ok}
use Rattle.qc_types.specs.declared.ty.Ty.{Ty}
use Rattle.qc_types.specs.declared.ty.Ty.TheVariants as ty
use Rattle.qc_types.specs.Schemas.{SchemaOf}
use Rattle.qc_ops.specs.declared.op.Unary.TheVariants as one
use Rattle.qc_typing.specs.Checking.{and_check}
use Rattle.qc_typing.specs.Tables.{unary_type}
use Rattle.qc_oql_tree.specs.declared.tree.Oql.{Oql}
use Rattle.qc_oql_tree.specs.declared.tree.Oql.TheOpen.{Oql-F, Filter-F, Key-F, Named-F, Order-F, Select-F}
use Rattle.qc_oql_tree.specs.declared.tree.Oql.TheFolds.{fold-Oql, fold-Filter, fold-Key, fold-Named, fold-Order}
use Rattle.qc_oql_tree.specs.declared.tree.Oql.TheFolds.{fold-Select}
use Rattle.qc_oql_tree.specs.declared.tree.Filter.{Filter}
use Rattle.qc_oql_tree.specs.declared.tree.Key.{Key}
use Rattle.qc_oql_tree.specs.declared.tree.Named.{Named}
use Rattle.qc_oql_tree.specs.declared.tree.Order.{Order}
use Rattle.qc_oql_tree.specs.declared.tree.Query.{Query}
use Rattle.qc_oql_tree.specs.declared.tree.Select.{Select}
use Rattle.qc_oql_tree.specs.FormTypings.{Typing, NamedTyping, FilterTyping, OrderTyping, type_of, type_after}
use Rattle.qc_oql_tree.specs.FormTypings.{type_of_both, matched_type, chosen_type, quantified_type, collected_type}
use Rattle.qc_oql_tree.specs.FormTypings.{structured_type, selected_type, type_beside}
use Rattle.qc_oql_tree.specs.OperatorTypes.{constant_type, one_type, two_type, divided_type, field_type, branded_type}

-- an expression, by the typings of its parts
abbrev pub form_type : SchemaOf → Oql-F Typing FilterTyping Typing NamedTyping OrderTyping Typing → Typing
form_type schema (Oql-F.Name at name) = type_of schema at name
form_type schema (Oql-F.Whole at n) = λ s. Ok ty.Int
form_type schema (Oql-F.Text at text) = λ s. Ok ty.Text
form_type schema (Oql-F.Constant at constant) = λ s. Ok (constant_type constant)
form_type schema (Oql-F.Struct at fields) = structured_type fields
form_type schema (Oql-F.Bag at members) = collected_type schema.classes at members
form_type schema (Oql-F.Unary at op a) = type_after at (one_type schema.classes op) a
form_type schema (Oql-F.Binary at op a b) = type_of_both at (two_type schema.classes op) a b
form_type schema (Oql-F.Divide at division a k) = type_after at (divided_type schema.classes division k) a
form_type schema (Oql-F.Like at a pattern) = type_after at (unary_type schema.classes (one.Like pattern)) a
form_type schema (Oql-F.Dot at a label) = type_after at (field_type schema.classes label) a
form_type schema (Oql-F.Brand at branding class a) = type_after at (branded_type schema.classes branding class) a
form_type schema (Oql-F.Match at a l r) = matched_type schema.classes at a l r
form_type schema (Oql-F.If at test a b) = chosen_type schema.classes at test a b
form_type schema (Oql-F.Quantified at quantifier source test) = quantified_type schema.classes at source test
form_type schema (Oql-F.Select at select) = select

-- a condition
abbrev pub filter_typing : Filter-F Typing FilterTyping Typing NamedTyping OrderTyping Typing → FilterTyping
filter_typing f = record { at = f.at; test = f.test }

-- a key
abbrev pub key_typing : Key-F Typing FilterTyping Typing NamedTyping OrderTyping Typing → Typing
key_typing k = k.of

-- a name with an expression
abbrev pub named_typing : Named-F Typing FilterTyping Typing NamedTyping OrderTyping Typing → NamedTyping
named_typing n = record { at = n.at; name = n.name; of = type_beside n.at n.name n.of }

-- an order
abbrev pub order_typing : Order-F Typing FilterTyping Typing NamedTyping OrderTyping Typing → OrderTyping
order_typing o = record { at = o.at; keys = o.keys }

-- what stands behind `select`
abbrev pub select_typing : SchemaOf → Select-F Typing FilterTyping Typing NamedTyping OrderTyping Typing → Typing
select_typing schema x = selected_type schema.classes x.value x.sources x.filter x.order

module _ (schema : SchemaOf) where
  -- the type of an expression by the types of what is bound, or the place of its first fault
  abbrev pub oql_type : Oql → Typing
  oql_type x =
      fold-Oql Typing FilterTyping Typing NamedTyping OrderTyping Typing
      (form_type schema) filter_typing key_typing named_typing order_typing (select_typing schema) x

  -- the same of the structs of trees
  abbrev pub filter_type : Filter → FilterTyping
  filter_type x =
      fold-Filter Typing FilterTyping Typing NamedTyping OrderTyping Typing
      (form_type schema) filter_typing key_typing named_typing order_typing (select_typing schema) x

  abbrev pub key_type : Key → Typing
  key_type x =
      fold-Key Typing FilterTyping Typing NamedTyping OrderTyping Typing
      (form_type schema) filter_typing key_typing named_typing order_typing (select_typing schema) x

  abbrev pub named_type : Named → NamedTyping
  named_type x =
      fold-Named Typing FilterTyping Typing NamedTyping OrderTyping Typing
      (form_type schema) filter_typing key_typing named_typing order_typing (select_typing schema) x

  abbrev pub order_type : Order → OrderTyping
  order_type x =
      fold-Order Typing FilterTyping Typing NamedTyping OrderTyping Typing
      (form_type schema) filter_typing key_typing named_typing order_typing (select_typing schema) x

  abbrev pub select_type : Select → Typing
  select_type x =
      fold-Select Typing FilterTyping Typing NamedTyping OrderTyping Typing
      (form_type schema) filter_typing key_typing named_typing order_typing (select_typing schema) x

-- the expression with what is defined, each definition with the earlier ones
abbrev pub defined_type : List NamedTyping → Typing → Typing
defined_type [] body s = body s
defined_type (d ∷ ds) body s = and_check (d.of s) (λ t. defined_type ds body ((d.name, t) ∷ s))

-- the type of a query in a schema, or the place of its first fault
abbrev pub query_type : SchemaOf → Query → Result Ty ℕ
query_type schema q = defined_type (map (named_type schema) q.defines) (oql_type schema q.body) []
