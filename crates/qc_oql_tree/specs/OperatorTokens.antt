-- Operators and other choices, by the kinds of their tokens.
use Rattle.std.specs.Prelude.{ℕ, eqb, if◌then◌else◌}
use Rattle.qc_oql_tree.specs.declared.tree.Constant.{Constant}
use Rattle.qc_oql_tree.specs.declared.tree.Constant.TheVariants as constant
use Rattle.qc_oql_tree.specs.declared.tree.Unary.{Unary}
use Rattle.qc_oql_tree.specs.declared.tree.Unary.TheVariants as unary
use Rattle.qc_oql_tree.specs.declared.tree.Binary.{Binary}
use Rattle.qc_oql_tree.specs.declared.tree.Binary.TheVariants as binary
use Rattle.qc_oql_tree.specs.declared.tree.Division.{Division}
use Rattle.qc_oql_tree.specs.declared.tree.Division.TheVariants as division
use Rattle.qc_oql_tree.specs.declared.tree.Branding.{Branding}
use Rattle.qc_oql_tree.specs.declared.tree.Branding.TheVariants as branding
use Rattle.qc_oql_tree.specs.TokenKinds.{ABS, AND, AT_LEAST, AT_MOST, AVG, CAST, COUNT, DISTINCT, DIVIDE, ELEMENT}
use Rattle.qc_oql_tree.specs.TokenKinds.{EQUAL, EXCEPT, FALSE, FLATTEN, GLUE, GREATER, IN, INTERSECT, LEAST, LEFT, LESS}
use Rattle.qc_oql_tree.specs.TokenKinds.{MAX, MIN, MINUS, NOT, NOT_EQUAL, OR, ORELSE, PLUS, RIGHT, SUM, TIMES, TRUE}
use Rattle.qc_oql_tree.specs.TokenKinds.{UNBRAND, UNION}

-- the literal that a kind of word is
abbrev pub constant_of : ℕ → Constant
constant_of k = if eqb k TRUE then constant.True
    else if eqb k FALSE then constant.False
    else constant.Nil

-- the operator or function of one operand that a kind of token is
abbrev pub unary_of : ℕ → Unary
unary_of k = if eqb k NOT then unary.Not
    else if eqb k MINUS then unary.Neg
    else if eqb k COUNT then unary.Count
    else if eqb k SUM then unary.Sum
    else if eqb k MIN then unary.Min
    else if eqb k MAX then unary.Max
    else if eqb k AVG then unary.Avg
    else if eqb k ELEMENT then unary.Element
    else if eqb k FLATTEN then unary.Flatten
    else if eqb k DISTINCT then unary.Distinct
    else if eqb k ABS then unary.Abs
    else if eqb k LEFT then unary.Left
    else if eqb k RIGHT then unary.Right
    else if eqb k UNBRAND then unary.Unbrand
    else unary.Exists

-- the operator or function of two operands that a kind of token is
abbrev pub binary_of : ℕ → Binary
binary_of k = if eqb k OR then binary.Or
    else if eqb k AND then binary.And
    else if eqb k EQUAL then binary.Eq
    else if eqb k NOT_EQUAL then binary.Ne
    else if eqb k LESS then binary.Lt
    else if eqb k AT_MOST then binary.Le
    else if eqb k GREATER then binary.Gt
    else if eqb k AT_LEAST then binary.Ge
    else if eqb k IN then binary.Member
    else if eqb k UNION then binary.Union
    else if eqb k EXCEPT then binary.Except
    else if eqb k INTERSECT then binary.Intersect
    else if eqb k PLUS then binary.Add
    else if eqb k MINUS then binary.Sub
    else if eqb k GLUE then binary.Glue
    else if eqb k TIMES then binary.Mul
    else if eqb k ORELSE then binary.OrElse
    else if eqb k LEAST then binary.Least
    else binary.Greatest

-- the division that a kind of token is
abbrev pub division_of : ℕ → Division
division_of k = if eqb k DIVIDE then division.DivBy else division.ModBy

-- the function of a class that a kind of word is
abbrev pub branding_of : ℕ → Branding
branding_of k = if eqb k CAST then branding.Cast else branding.Brand
