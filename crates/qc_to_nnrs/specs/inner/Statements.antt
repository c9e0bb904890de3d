-- The program of statements for a tree of the calculus. A tree gives steps, each of which binds a variable of the
-- program, and an expression that reads them. The steps at a number n and behind have the numbers n, n + 1 and so on.
use Rattle.std.specs.Prelude.{ℕ, ◌+◌, ◌==◌, cond, List, [], ◌∷◌, ◌++◌, length}
use Rattle.qc_nnrc.specs.declared.tree.Nnrc.{Nnrc}
use Rattle.qc_nnrc.specs.declared.tree.Nnrc.TheOpen.{Nnrc-F}
use Rattle.qc_nnrc.specs.declared.tree.Nnrc.TheFolds.{fold-Nnrc}
use Rattle.qc_nnrs.specs.declared.tree.Nnrs.{Nnrs}
use Rattle.qc_nnrs.specs.declared.tree.NnrsExpr.{NnrsExpr}
use Rattle.qc_nnrs.specs.declared.tree.NnrsExpr.TheVariants as expr
use Rattle.qc_nnrs.specs.declared.tree.NnrsStmt.{NnrsStmt}
use Rattle.qc_nnrs.specs.declared.tree.NnrsStmt.TheVariants as stmt
use Rattle.qc_ops.specs.declared.op.Binary.{Binary}
use Rattle.qc_ops.specs.declared.op.Unary.{Unary}
use Rattle.qc_to_nnrs.specs.declared.names.Names.{Names}
use Rattle.qc_to_nnrs.specs.declared.names.Names.TheVariants.{Nothing, Bound'}
use Rattle.qc_to_nnrs.specs.declared.steps.Step.{Step}
use Rattle.qc_to_nnrs.specs.declared.steps.Step.TheVariants.{Value, Assigned, Collected}

-- ---- variables

-- the variables of the program for those of the tree, the newest first
abbrev pub Renaming : Type 0
Renaming = List (ℕ × ℕ)

-- those of a chain
abbrev pub renaming_of : Names → Renaming
renaming_of Nothing = []
renaming_of (Bound' y k p outer) = (y, k) ∷ renaming_of outer

-- the variable of the program for one of the tree, and 0 where there is none
abbrev pub renamed : ℕ → Renaming → ℕ
renamed y [] = 0
renamed y (p ∷ ps) = cond (p.0 == y) p.1 (renamed y ps)

-- ---- steps

-- a step before a statement
abbrev pub bind : Step → NnrsStmt → NnrsStmt
bind (Value n x) s = stmt.Let n x s
bind (Assigned n a) s = stmt.LetMut n a s
bind (Collected n a) s = stmt.LetColl n a s

-- steps before a statement, the first one outermost
abbrev pub wrap : List Step → NnrsStmt → NnrsStmt
wrap [] s = s
wrap (b ∷ bs) s = bind b (wrap bs s)

-- what a tree gives: steps, and an expression behind them
abbrev pub Made : Type 0
Made = List Step × NnrsExpr

-- the first number that is free behind steps from n on
abbrev pub after : ℕ → List Step → ℕ
after n bs = n + length bs

-- the variable set to the value of what a tree gives, and that value pushed to it
abbrev pub setting : ℕ → Made → NnrsStmt
setting k m = wrap m.0 (stmt.Set k m.1)

abbrev pub pushing : ℕ → Made → NnrsStmt
pushing k m = wrap m.0 (stmt.Push k m.1)

-- a last step
abbrev pub with_step : List Step → Step → List Step
with_step bs b = bs ++ b ∷ []

-- ---- trees

-- what a tree gives, by the variables and the first number that is free
abbrev pub Lowering : Type 0
Lowering = Renaming → ℕ → Made

-- operators on what trees give
abbrev pub of_one : Unary → Made → Made
of_one op a = (a.0, expr.Unary op a.1)

abbrev pub of_two : Binary → Made → Made → Made
of_two op a b = (a.0 ++ b.0, expr.Binary op a.1 b.1)

-- let: the value of a stands at k
abbrev pub let_with : ℕ → Lowering → Renaming → ℕ → Made → Made
let_with y b r k a =
    (with_step a.0 (Value k a.1) ++ (b ((y, k) ∷ r) (k + 1)).0, (b ((y, k) ∷ r) (k + 1)).1)

-- for: a member stands behind k, to which what the body gives is pushed
abbrev pub loop : ℕ → NnrsExpr → Made → NnrsStmt
loop k x b = stmt.For (k + 1) x (pushing k b)

abbrev pub for_with : ℕ → Lowering → Renaming → ℕ → Made → Made
for_with y b r k a = (with_step a.0 (Collected k (loop k a.1 (b ((y, k + 1) ∷ r) (k + 2)))), expr.Var k)

-- if: k is set to what a branch gives
abbrev pub choice : ℕ → NnrsExpr → Made → Made → NnrsStmt
choice k x b c = stmt.If x (setting k b) (setting k c)

abbrev pub if_with : Lowering → Lowering → Renaming → ℕ → Made → Made
if_with b c r k a = (with_step a.0 (Assigned k (choice k a.1 (b r (k + 1)) (c r (k + 1)))), expr.Var k)

-- either: the content stands behind k, which is set to what a body gives
abbrev pub sides : ℕ → NnrsExpr → Made → Made → NnrsStmt
sides k x b c = stmt.Either x (k + 1) (setting k b) (k + 1) (setting k c)

abbrev pub either_with : ℕ → Lowering → ℕ → Lowering → Renaming → ℕ → Made → Made
either_with y b z c r k a =
    (with_step a.0 (Assigned k (sides k a.1 (b ((y, k + 1) ∷ r) (k + 2)) (c ((z, k + 1) ∷ r) (k + 2)))), expr.Var k)

-- a form, by what its parts give
abbrev pub lower_form : Nnrc-F Lowering → Lowering
lower_form (Nnrc-F.Var y) r n = ([], expr.Var (renamed y r))
lower_form (Nnrc-F.Const d) r n = ([], expr.Const d)
lower_form (Nnrc-F.Global name) r n = ([], expr.Global name)
lower_form (Nnrc-F.Unary op a) r n = of_one op (a r n)
lower_form (Nnrc-F.Binary op a b) r n = of_two op (a r n) (b r (after n (a r n).0))
lower_form (Nnrc-F.Let y a b) r n = let_with y b r (after n (a r n).0) (a r n)
lower_form (Nnrc-F.For y a b) r n = for_with y b r (after n (a r n).0) (a r n)
lower_form (Nnrc-F.If a b c) r n = if_with b c r (after n (a r n).0) (a r n)
lower_form (Nnrc-F.Either a y b z c) r n = either_with y b z c r (after n (a r n).0) (a r n)

-- what a tree gives by its parts
abbrev pub lower : Nnrc → Lowering
lower e = fold-Nnrc Lowering lower_form e

-- a whole tree: its program returns 0
abbrev pub lowered : Nnrc → Nnrs
lowered e = record { body = setting 0 (lower e [] 1); result = 0 }
