-- The stack of values on which the actions of the grammar work. Where another value is on top than an action wants, it
-- takes one that stands for it, so that actions are total. In a word of the grammar that never comes.
use Rattle.std.specs.Prelude.{ℤ, pos, List, [], ◌∷◌, Option, None}
use Rattle.qc_oql_tree.specs.declared.tree.Constant.TheVariants as constant
use Rattle.qc_oql_tree.specs.declared.tree.Filter.{Filter}
use Rattle.qc_oql_tree.specs.declared.tree.Key.{Key}
use Rattle.qc_oql_tree.specs.declared.tree.Named.{Named}
use Rattle.qc_oql_tree.specs.declared.tree.Oql.{Oql}
use Rattle.qc_oql_tree.specs.declared.tree.Oql.TheVariants as tree
use Rattle.qc_oql_tree.specs.declared.tree.Order as orders
use Rattle.qc_oql_tree.specs.Trees.{named}
use Rattle.qc_oql_table.specs.declared.value.Mark as marks
use Rattle.qc_oql_table.specs.declared.value.Word as words
use Rattle.qc_oql_table.specs.declared.value.Value.{Value}
use Rattle.qc_oql_table.specs.declared.value.Value.TheVariants.{Mark, Name, Divisor, Tree, Members, Entries, Keys}
use Rattle.qc_oql_table.specs.declared.value.Value.TheVariants.{Filtered, Ordered}

-- the last value first
abbrev pub Values : Type 0
Values = List Value

-- what is below the top
abbrev pub rest : Values → Values
rest [] = []
rest (v ∷ s) = s

-- the place and the kind of a token
abbrev pub the_mark : Values → marks.Mark
the_mark (Mark m ∷ s) = m
the_mark _ = record { at = 0; kind = 0 }

-- the text of a token, with its place
abbrev pub the_word : Values → words.Word
the_word (Name w ∷ s) = w
the_word _ = record { at = 0; text = [] }

-- the literal by which a value is divided
abbrev pub the_divisor : Values → ℤ
the_divisor (Divisor k ∷ s) = k
the_divisor _ = pos 0

-- an expression
abbrev pub the_tree : Values → Oql
the_tree (Tree x ∷ s) = x
the_tree _ = tree.Constant 0 constant.Nil

-- the members of a bag
abbrev pub the_members : Values → List Oql
the_members (Members xs ∷ s) = xs
the_members _ = []

-- names with expressions: definitions, sources or fields
abbrev pub the_entries : Values → List Named
the_entries (Entries xs ∷ s) = xs
the_entries _ = []

-- the keys of an order
abbrev pub the_keys : Values → List Key
the_keys (Keys ks ∷ s) = ks
the_keys _ = []

-- a condition, if there is one
abbrev pub the_filter : Values → Option Filter
the_filter (Filtered f ∷ s) = f
the_filter _ = None

-- an order, if there is one
abbrev pub the_order : Values → Option orders.Order
the_order (Ordered o ∷ s) = o
the_order _ = None

-- a name with the expression that is above it
abbrev pub the_entry : Values → Named
the_entry s = named (the_word (rest s)).at (the_word (rest s)).text (the_tree s)
