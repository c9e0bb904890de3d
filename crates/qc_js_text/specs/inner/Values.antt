-- The stack of values on which the actions of the grammar work. Where another value is on top than an action wants, it
-- takes one that stands for it, so that actions are total. In a word of the grammar that never comes.
use Rattle.std.specs.Prelude.{ℕ, List, [], ◌∷◌}
use Rattle.qc_rt.specs.declared.function.Rt.{Rt}
use Rattle.qc_rt.specs.declared.function.Rt.TheVariants as rt
use Rattle.qc_js.specs.declared.tree.Expr.{Expr}
use Rattle.qc_js.specs.declared.tree.Expr.TheVariants as tree
use Rattle.qc_js.specs.declared.tree.Stmt.{Stmt}
use Rattle.qc_js.specs.declared.tree.Stmt.TheVariants as stmt
use Rattle.qc_js_text.specs.declared.value.Value.{Value}
use Rattle.qc_js_text.specs.declared.value.Value.TheVariants.{Name, Function, Tree, Members, Statement, Statements}

-- the last value first
abbrev pub Values : Type 0
Values = List Value

-- what is below the top
abbrev pub rest : Values → Values
rest [] = []
rest (v ∷ s) = s

abbrev pub the_name : Values → ℕ
the_name (Name x ∷ s) = x
the_name _ = 0

abbrev pub the_function : Values → Rt
the_function (Function f ∷ s) = f
the_function _ = rt.Nothing

abbrev pub the_tree : Values → Expr
the_tree (Tree e ∷ s) = e
the_tree _ = tree.Null

abbrev pub the_members : Values → List Expr
the_members (Members es ∷ s) = es
the_members _ = []

abbrev pub the_statement : Values → Stmt
the_statement (Statement s ∷ _) = s
the_statement _ = stmt.Let 0

abbrev pub the_statements : Values → List Stmt
the_statements (Statements ss ∷ s) = ss
the_statements _ = []
