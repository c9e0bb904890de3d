-- The kinds of lexemes by their numbers: variables, functions of the runtime, integers and strings; then the words and
-- the marks of the grammar, and last the words that it does not know.
use Rattle.std.specs.Prelude.{ℕ}

abbrev pub VAR : ℕ
VAR = 0

abbrev pub FN : ℕ
FN = 1

abbrev pub INT : ℕ
INT = 2

abbrev pub TEXT : ℕ
TEXT = 3

abbrev pub FUNCTION : ℕ
FUNCTION = 4

abbrev pub QUERY : ℕ
QUERY = 5

abbrev pub W : ℕ
W = 6

abbrev pub RT : ℕ
RT = 7

abbrev pub RETURN : ℕ
RETURN = 8

abbrev pub LET : ℕ
LET = 9

abbrev pub CONST : ℕ
CONST = 10

abbrev pub PUSH : ℕ
PUSH = 11

abbrev pub FOR : ℕ
FOR = 12

abbrev pub OF : ℕ
OF = 13

abbrev pub IF : ℕ
IF = 14

abbrev pub ELSE : ℕ
ELSE = 15

abbrev pub TRUE : ℕ
TRUE = 16

abbrev pub FALSE : ℕ
FALSE = 17

abbrev pub NULL : ℕ
NULL = 18

abbrev pub OPEN : ℕ
OPEN = 19

abbrev pub CLOSE : ℕ
CLOSE = 20

abbrev pub OPEN_BRACE : ℕ
OPEN_BRACE = 21

abbrev pub CLOSE_BRACE : ℕ
CLOSE_BRACE = 22

abbrev pub OPEN_SQUARE : ℕ
OPEN_SQUARE = 23

abbrev pub CLOSE_SQUARE : ℕ
CLOSE_SQUARE = 24

abbrev pub COMMA : ℕ
COMMA = 25

abbrev pub SEMICOLON : ℕ
SEMICOLON = 26

abbrev pub DOT : ℕ
DOT = 27

abbrev pub EQUALS : ℕ
EQUALS = 28

abbrev pub OTHER : ℕ
OTHER = 29
