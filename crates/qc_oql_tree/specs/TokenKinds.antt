-- The kinds of tokens.
use Rattle.std.specs.Prelude.{ℕ, Bool, false, eqb, ◌||◌, List, [], ◌∷◌}

-- a word that is none of the language's
abbrev pub NAME : ℕ
NAME = 0

abbrev pub DEFINE : ℕ
DEFINE = 1

abbrev pub AS : ℕ
AS = 2

abbrev pub SELECT : ℕ
SELECT = 3

abbrev pub DISTINCT : ℕ
DISTINCT = 4

abbrev pub FROM : ℕ
FROM = 5

abbrev pub WHERE : ℕ
WHERE = 6

abbrev pub ORDER : ℕ
ORDER = 7

abbrev pub BY : ℕ
BY = 8

abbrev pub IN : ℕ
IN = 9

abbrev pub ASC : ℕ
ASC = 10

abbrev pub DESC : ℕ
DESC = 11

abbrev pub IF : ℕ
IF = 12

abbrev pub THEN : ℕ
THEN = 13

abbrev pub ELSE : ℕ
ELSE = 14

abbrev pub EXISTS : ℕ
EXISTS = 15

abbrev pub FOR : ℕ
FOR = 16

abbrev pub ALL : ℕ
ALL = 17

abbrev pub TRUE : ℕ
TRUE = 18

abbrev pub FALSE : ℕ
FALSE = 19

abbrev pub NIL : ℕ
NIL = 20

abbrev pub STRUCT : ℕ
STRUCT = 21

abbrev pub BAG : ℕ
BAG = 22

abbrev pub MATCH : ℕ
MATCH = 23

abbrev pub CAST : ℕ
CAST = 24

abbrev pub BRAND : ℕ
BRAND = 25

abbrev pub OR : ℕ
OR = 26

abbrev pub AND : ℕ
AND = 27

abbrev pub NOT : ℕ
NOT = 28

abbrev pub LIKE : ℕ
LIKE = 29

abbrev pub UNION : ℕ
UNION = 30

abbrev pub EXCEPT : ℕ
EXCEPT = 31

abbrev pub INTERSECT : ℕ
INTERSECT = 32

abbrev pub MOD : ℕ
MOD = 33

abbrev pub COUNT : ℕ
COUNT = 34

abbrev pub SUM : ℕ
SUM = 35

abbrev pub MIN : ℕ
MIN = 36

abbrev pub MAX : ℕ
MAX = 37

abbrev pub AVG : ℕ
AVG = 38

abbrev pub ELEMENT : ℕ
ELEMENT = 39

abbrev pub FLATTEN : ℕ
FLATTEN = 40

abbrev pub ABS : ℕ
ABS = 41

abbrev pub LEFT : ℕ
LEFT = 42

abbrev pub RIGHT : ℕ
RIGHT = 43

abbrev pub UNBRAND : ℕ
UNBRAND = 44

abbrev pub ORELSE : ℕ
ORELSE = 45

abbrev pub LEAST : ℕ
LEAST = 46

abbrev pub GREATEST : ℕ
GREATEST = 47

-- a whole number that is 0
abbrev pub ZERO : ℕ
ZERO = 48

-- a whole number that is not 0
abbrev pub NONZERO : ℕ
NONZERO = 49

abbrev pub TEXT : ℕ
TEXT = 50

abbrev pub OPEN : ℕ
OPEN = 51

abbrev pub CLOSE : ℕ
CLOSE = 52

abbrev pub COMMA : ℕ
COMMA = 53

abbrev pub DOT : ℕ
DOT = 54

abbrev pub COLON : ℕ
COLON = 55

abbrev pub SEMICOLON : ℕ
SEMICOLON = 56

abbrev pub PLUS : ℕ
PLUS = 57

abbrev pub MINUS : ℕ
MINUS = 58

abbrev pub TIMES : ℕ
TIMES = 59

abbrev pub DIVIDE : ℕ
DIVIDE = 60

abbrev pub EQUAL : ℕ
EQUAL = 61

abbrev pub NOT_EQUAL : ℕ
NOT_EQUAL = 62

abbrev pub LESS : ℕ
LESS = 63

abbrev pub AT_MOST : ℕ
AT_MOST = 64

abbrev pub GREATER : ℕ
GREATER = 65

abbrev pub AT_LEAST : ℕ
AT_LEAST = 66

abbrev pub GLUE : ℕ
GLUE = 67

-- a token that the language has not
abbrev pub OTHER : ℕ
OTHER = 68

-- whole numbers
abbrev pub WHOLES : List ℕ
WHOLES = ZERO ∷ NONZERO ∷ []

-- words that are literals
abbrev pub CONSTANTS : List ℕ
CONSTANTS = TRUE ∷ FALSE ∷ NIL ∷ []

-- operators on collections
abbrev pub SETS : List ℕ
SETS = UNION ∷ EXCEPT ∷ INTERSECT ∷ []

-- operators that group like a sum
abbrev pub SUMS : List ℕ
SUMS = PLUS ∷ MINUS ∷ GLUE ∷ []

-- divisions by a literal
abbrev pub DIVISIONS : List ℕ
DIVISIONS = DIVIDE ∷ MOD ∷ []

-- comparisons, and membership
abbrev pub TESTS : List ℕ
TESTS = EQUAL ∷ NOT_EQUAL ∷ LESS ∷ AT_MOST ∷ GREATER ∷ AT_LEAST ∷ IN ∷ []

-- functions of one operand
abbrev pub UNARIES : List ℕ
UNARIES =
    EXISTS ∷ DISTINCT ∷ COUNT ∷ SUM ∷ MIN ∷ MAX ∷ AVG ∷ ELEMENT ∷ FLATTEN ∷ ABS ∷ LEFT ∷ RIGHT ∷ UNBRAND ∷
    []

-- functions of two operands
abbrev pub BINARIES : List ℕ
BINARIES = ORELSE ∷ LEAST ∷ GREATEST ∷ []

-- functions of a class and an operand
abbrev pub BRANDINGS : List ℕ
BRANDINGS = CAST ∷ BRAND ∷ []

-- words, reserved or not
abbrev pub LABELS : List ℕ
LABELS =
    NAME ∷ DEFINE ∷ AS ∷ SELECT ∷ DISTINCT ∷ FROM ∷ WHERE ∷ ORDER ∷ BY ∷ IN ∷ ASC ∷ DESC ∷
    IF ∷ THEN ∷ ELSE ∷ EXISTS ∷ FOR ∷ ALL ∷ TRUE ∷ FALSE ∷ NIL ∷ STRUCT ∷ BAG ∷ MATCH ∷ CAST ∷
    BRAND ∷ OR ∷ AND ∷ NOT ∷ LIKE ∷ UNION ∷ EXCEPT ∷ INTERSECT ∷ MOD ∷ COUNT ∷ SUM ∷ MIN ∷
    MAX ∷ AVG ∷ ELEMENT ∷ FLATTEN ∷ ABS ∷ LEFT ∷ RIGHT ∷ UNBRAND ∷ ORELSE ∷ LEAST ∷ GREATEST ∷ []

-- whether the kind is one of these
abbrev pub among : ℕ → List ℕ → Bool
among k [] = false
among k (x ∷ xs) = eqb k x || among k xs
