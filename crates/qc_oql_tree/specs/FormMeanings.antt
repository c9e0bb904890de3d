-- What the forms of expressions but operators and `select` mean, by the meanings of their parts. The first outcome that
-- is no
-- value decides.
use Rattle.std.specs.Prelude.{ℕ, Bool, true, false, cond, List, [], ◌∷◌}
use Rattle.std.specs.List.{list_any, list_all}
use Rattle.qc_data.specs.Kinds.{as_coll}
use Rattle.qc_data.specs.Outcome.{Outcome, Value, and_then, each}
use Rattle.qc_data.specs.declared.data.Datum.{Datum}
use Rattle.qc_data.specs.declared.data.Datum.TheVariants.{Unit as Nothing, Bool as Truth, Rec}
use Rattle.qc_ops.specs.Operands.{as_bool, bag}
use Rattle.qc_ops.specs.Records.{put_new}
use Rattle.qc_oql_tree.specs.declared.tree.Constant.{Constant}
use Rattle.qc_oql_tree.specs.declared.tree.Constant.TheVariants.{True, False, Nil}
use Rattle.qc_oql_tree.specs.declared.tree.Quantifier.{Quantifier}
use Rattle.qc_oql_tree.specs.declared.tree.Quantifier.TheVariants.{Exists, ForAll}
use Rattle.qc_oql_tree.specs.Bindings.{Bindings, Meaning}
use Rattle.qc_oql_tree.specs.OperatorMeanings.{name_of}
use Rattle.qc_ops.specs.Sides.{by_side}

-- a name with the meaning of its expression
abbrev pub NamedMeaning : Type 0
NamedMeaning = List ℕ × Meaning

-- `true`, `false` or `nil`
abbrev pub constant : Constant → Datum
constant True = Truth true
constant False = Truth false
constant Nil = Nothing

-- a body with its name bound
abbrev pub bound : NamedMeaning → Bindings → Datum → Outcome Datum
bound named s x = named.1 ((named.0, x) ∷ s)

-- match: the side's body, with its name bound to the content
abbrev pub matched : Meaning → NamedMeaning → NamedMeaning → Meaning
matched a l r s = and_then (a s) (by_side (bound l s) (bound r s))

-- a truth value
unfoldable pub truth : Meaning → Bindings → Outcome Bool
truth test s = and_then (test s) as_bool

-- if: one branch, by a truth value
abbrev pub chosen : Meaning → Meaning → Meaning → Meaning
chosen test a b s = and_then (truth test s) (λ holds. cond holds (a s) (b s))

-- whether some, or each, of the truth values is true
unfoldable pub decides : Quantifier → List Bool → Bool
decides Exists ts = list_any (λ t. t) ts
decides ForAll ts = list_all (λ t. t) ts

-- the answer on members, on every one of which the condition is evaluated
abbrev pub decided : Quantifier → List ℕ → Meaning → Bindings → List Datum → Outcome Bool
decided q name test s xs = and_then (each (λ x. truth test ((name, x) ∷ s)) xs) (λ ts. Value (decides q ts))

abbrev pub tested : Quantifier → List ℕ → Meaning → Bindings → Datum → Outcome Datum
tested q name test s v =
    and_then (as_coll v) (λ xs. and_then (decided q name test s xs) (λ answer. Value (Truth answer)))

-- exists, for all
abbrev pub quantified : Quantifier → NamedMeaning → Meaning → Meaning
quantified q source test s = and_then (source.1 s) (tested q source.0 test s)

-- bag: the members in order
abbrev pub collected : List Meaning → Meaning
collected members s = bag (each (λ member. member s) members)

-- a field, whose label is a name
abbrev pub field_of : Bindings → NamedMeaning → Outcome (List ℕ × Datum)
field_of s named = and_then (name_of named.0) (λ label. and_then (named.1 s) (λ x. Value (label, x)))

-- the record of the fields, of equal labels the last
abbrev pub record_of : List (List ℕ × Datum) → List (List ℕ × Datum)
record_of [] = []
record_of (f ∷ fs) = put_new f.0 f.1 (record_of fs)

-- struct: the fields in order
abbrev pub structured : List NamedMeaning → Meaning
structured fields s = and_then (each (field_of s) fields) (λ fs. Value (Rec (record_of fs)))
