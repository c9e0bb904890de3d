-- The trees of the algebra for the forms of queries, by the trees for their parts. The environment is the record of
-- what is bound, and the tree for a part does not read the input.
use Rattle.std.specs.Prelude.{ℕ, zero, suc, ◌+◌, nat_eq, ◌||◌, Bool, true, false, cond, codes, List, [], ◌∷◌, map}
use Rattle.std.specs.Prelude.{Option, Some, None}
use Rattle.std.specs.Str.{bytes_eq}
use Rattle.qc_data.specs.declared.data.Datum.TheVariants.{Bool as Truth, Coll, Rec}
use Rattle.qc_nra.specs.declared.tree.Nra.{Nra}
use Rattle.qc_nra.specs.declared.tree.Nra.TheVariants as nra
use Rattle.qc_ops.specs.declared.op.Unary.{Unary as OnOne}
use Rattle.qc_ops.specs.declared.op.Unary.TheVariants as one
use Rattle.qc_ops.specs.declared.op.Binary.TheVariants as two
use Rattle.qc_oql_tree.specs.declared.pairing.Pairing.{Pairing}
use Rattle.qc_oql_tree.specs.declared.pairing.Pairing.TheVariants as pairing
use Rattle.qc_oql_tree.specs.declared.tree.Direction.{Direction}
use Rattle.qc_oql_tree.specs.declared.tree.Quantifier.{Quantifier}
use Rattle.qc_oql_tree.specs.declared.tree.Quantifier.TheVariants.{Exists, ForAll}
use Rattle.qc_oql_tree.specs.SelectMeaning.{is_ascending}

-- the names that are bound, the newest first
abbrev pub Scope : Type 0
Scope = List (List ℕ)

-- the tree for an expression, by the names that are bound
abbrev pub Translation : Type 0
Translation = Scope → Nra

-- a name with the tree for its expression
abbrev pub NamedTranslation : Type 0
NamedTranslation = List ℕ × Translation

-- a key with its direction
abbrev pub KeyTranslation : Type 0
KeyTranslation = Translation × Direction

-- the items put before a tree, the last one first
abbrev pub folded : {A : Type 0} → (A → Nra → Nra) → List A → Nra → Nra
folded f [] a = a
folded f (x ∷ xs) a = f x (folded f xs a)

-- ---- names

-- the name is one of those that are bound
abbrev pub is_bound : List ℕ → Scope → Bool
is_bound name [] = false
is_bound name (n ∷ ns) = bytes_eq n name || is_bound name ns

-- a name: a field of the environment, where it is bound, or else a global
abbrev pub name_tree : List ℕ → Translation
name_tree name s = cond (is_bound name s) (nra.Unary (one.Dot name) nra.Env) (nra.Global name)

-- the environment with the name bound to a value
abbrev pub binding : List ℕ → Nra → Nra
binding name a = nra.Binary two.Cat nra.Env (nra.Unary (one.Rec name) a)

-- a tree with the name bound to the input
abbrev pub under : List ℕ → Nra → Nra
under name a = nra.EnvComp a (binding name nra.Input)

-- a body with its name bound to the input
abbrev pub bound_tree : NamedTranslation → Translation
bound_tree named s = under named.0 (named.1 (named.0 ∷ s))

-- ---- operators

-- whether a collection has a member
abbrev pub has_member_tree : Nra → Nra
has_member_tree a = nra.Unary one.Not (nra.Binary two.Eq a (nra.Const (Coll [])))

-- an operator of one operand, where none is `exists`
abbrev pub one_tree : Option OnOne → Nra → Nra
one_tree None a = has_member_tree a
one_tree (Some op) a = nra.Unary op a

-- an operator of two operands, where no pairing is `orelse`
abbrev pub two_tree : Option Pairing → Nra → Nra → Nra
two_tree None a b = nra.Comp (nra.Either nra.Input b) a
two_tree (Some (pairing.Plain op)) a b = nra.Binary op a b
two_tree (Some (pairing.Exchanged op)) a b = nra.Binary op b a
two_tree (Some pairing.Unequal) a b = nra.Unary one.Not (nra.Binary two.Eq a b)

-- ---- forms

-- a field before the record of the later ones, which goes before it where they share a label
abbrev pub field_before : List ℕ × Nra → Nra → Nra
field_before f rest = nra.Binary two.Cat (nra.Unary (one.Rec f.0) f.1) rest

-- struct: the fields in order, of equal labels the last
abbrev pub struct_tree : List NamedTranslation → Translation
struct_tree fields s = folded field_before (map (λ f. (f.0, f.1 s)) fields) (nra.Const (Rec []))

-- a member before the collection of the later ones
abbrev pub member_before : Nra → Nra → Nra
member_before a rest = nra.Binary two.Union (nra.Unary one.Single a) rest

-- bag: the members in order
abbrev pub bag_tree : List Translation → Translation
bag_tree members s = folded member_before (map (λ member. member s) members) (nra.Const (Coll []))

-- match: a body by the side, with its name bound to the content
abbrev pub match_tree : Translation → NamedTranslation → NamedTranslation → Translation
match_tree a l r s = nra.Comp (nra.Either (bound_tree l s) (bound_tree r s)) (a s)

-- if
abbrev pub if_tree : Translation → Translation → Translation → Translation
if_tree test a b s = nra.If (test s) (a s) (b s)

-- whether some, or each, of a collection of truth values is true
abbrev pub decided_tree : Quantifier → Nra → Nra
decided_tree Exists a = nra.Binary two.Member (nra.Const (Truth true)) a
decided_tree ForAll a = nra.Unary one.Not (nra.Binary two.Member (nra.Const (Truth false)) a)

-- exists, for all: by the truth values of the condition on the members
abbrev pub quantified_tree : Quantifier → NamedTranslation → Translation → Translation
quantified_tree q source test s = decided_tree q (nra.Map (bound_tree (source.0, test) s) (source.1 s))

-- ---- the select, of which a row is the environment with what the sources bind

-- a tree with a row, which is the input, as its environment
abbrev pub at_row : Nra → Nra
at_row a = nra.EnvComp a nra.Input

-- each row with the name bound to each member of the source
abbrev pub joined_tree : NamedTranslation → Scope → Nra → Nra
joined_tree source s rows = nra.DepJoin (nra.Map (nra.Unary (one.Rec source.0) nra.Input) (at_row (source.1 s))) rows

-- the rows extended by each source in turn
abbrev pub rows_tree : List NamedTranslation → Scope → Nra → Nra
rows_tree [] s rows = rows
rows_tree (source ∷ sources) s rows = rows_tree sources (source.0 ∷ s) (joined_tree source s rows)

-- the names that are bound behind the sources
abbrev pub with_sources : List NamedTranslation → Scope → Scope
with_sources [] s = s
with_sources (source ∷ sources) s = with_sources sources (source.0 ∷ s)

-- where
abbrev pub filtered_tree : Option Translation → Scope → Nra → Nra
filtered_tree None s rows = rows
filtered_tree (Some test) s rows = nra.Select (at_row (test s)) rows

-- the numeral behind another, of the letters a and b (97 and 98), the lowest digit first
abbrev pub next_numeral : List ℕ → List ℕ
next_numeral [] = 97 ∷ []
next_numeral (c ∷ cs) = cond (nat_eq c 97) (98 ∷ cs) (97 ∷ next_numeral cs)

-- the numeral of a number: no two are the same
abbrev pub numeral : ℕ → List ℕ
numeral zero = []
numeral (suc n) = next_numeral (numeral n)

-- the values of the keys on a row, at the numerals behind a number
abbrev pub key_fields : ℕ → List KeyTranslation → Scope → List (List ℕ × Nra)
key_fields n [] s = []
key_fields n (key ∷ keys) s = (numeral (n + 1), at_row (key.0 s)) ∷ key_fields (n + 1) keys s

-- the numerals behind a number, each with whether its key is ascending
abbrev pub key_names : ℕ → List Direction → List (List ℕ × Bool)
key_names n [] = []
key_names n (d ∷ ds) = (numeral (n + 1), is_ascending d) ∷ key_names (n + 1) ds

-- the row at a name that is no numeral
abbrev pub row_field : Nra
row_field = nra.Unary (one.Rec (codes "row")) nra.Input

-- the rows in the order of fields that are put beside them; those that tie keep theirs
abbrev pub sorted_tree : List (List ℕ × Nra) → List (List ℕ × Bool) → Nra → Nra
sorted_tree fields names rows =
    nra.Map (nra.Unary (one.Dot (codes "row")) nra.Input)
    (nra.Unary (one.Order names) (nra.Map (folded field_before fields row_field) rows))

-- order by
abbrev pub ordered_tree : Option (List KeyTranslation) → Scope → Nra → Nra
ordered_tree None s rows = rows
ordered_tree (Some keys) s rows =
    sorted_tree (key_fields 0 keys s) (key_names 0 (map (λ key. key.1) keys)) rows

-- distinct
abbrev pub distinct_tree : Bool → Nra → Nra
distinct_tree distinct a = cond distinct (nra.Unary one.Distinct a) a

-- what stands behind `select`: the value on each row
abbrev pub values_tree : Bool → Translation → Option Translation → Option (List KeyTranslation) → Scope → Nra → Nra
values_tree distinct value filter order s rows =
    distinct_tree distinct (nra.Map (at_row (value s)) (ordered_tree order s (filtered_tree filter s rows)))

-- the rows that the sources make, of the one row that is the environment
abbrev pub select_tree : Bool → Translation → List NamedTranslation → Option Translation
    → Option (List KeyTranslation) → Translation
select_tree distinct value sources filter order s =
    values_tree distinct value filter order (with_sources sources s)
    (rows_tree sources s (nra.Unary one.Single nra.Env))
