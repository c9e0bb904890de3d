-- The actions, and the rules as their alternatives: the table of js.grammar, made by tools/table.
use Rattle.std.specs.Prelude.{ℕ, [], ◌∷◌}
use Rattle.qc_grammar.specs.declared.symbol.Symbol.TheVariants.{Token, Rule, Action}
use Rattle.qc_grammar.specs.inner.Derivations.{Rules}
use Rattle.qc_js_text.specs.TokenKinds.{VAR, FN, INT, TEXT, FUNCTION, QUERY, W, RT, RETURN, LET, CONST, PUSH, FOR, OF}
use Rattle.qc_js_text.specs.TokenKinds.{IF, ELSE, TRUE, FALSE, NULL, OPEN, CLOSE, OPEN_BRACE, CLOSE_BRACE, OPEN_SQUARE}
use Rattle.qc_js_text.specs.TokenKinds.{CLOSE_SQUARE, COMMA, SEMICOLON, DOT, EQUALS}

abbrev pub DO_NO_STATEMENTS : ℕ
DO_NO_STATEMENTS = 0

abbrev pub DO_STATEMENT : ℕ
DO_STATEMENT = 1

abbrev pub DO_NAME : ℕ
DO_NAME = 2

abbrev pub DO_LET : ℕ
DO_LET = 3

abbrev pub DO_FOR : ℕ
DO_FOR = 4

abbrev pub DO_IF : ℕ
DO_IF = 5

abbrev pub DO_BLOCK : ℕ
DO_BLOCK = 6

abbrev pub DO_SET : ℕ
DO_SET = 7

abbrev pub DO_PUSH : ℕ
DO_PUSH = 8

abbrev pub DO_CONST : ℕ
DO_CONST = 9

abbrev pub DO_COLLECT : ℕ
DO_COLLECT = 10

abbrev pub DO_NONE : ℕ
DO_NONE = 11

abbrev pub DO_ITEM : ℕ
DO_ITEM = 12

abbrev pub DO_ARRAY : ℕ
DO_ARRAY = 13

abbrev pub DO_VARIABLE : ℕ
DO_VARIABLE = 14

abbrev pub DO_WORLD : ℕ
DO_WORLD = 15

abbrev pub DO_TRUE : ℕ
DO_TRUE = 16

abbrev pub DO_FALSE : ℕ
DO_FALSE = 17

abbrev pub DO_NULL : ℕ
DO_NULL = 18

abbrev pub DO_INT : ℕ
DO_INT = 19

abbrev pub DO_TEXT : ℕ
DO_TEXT = 20

abbrev pub DO_CALLED : ℕ
DO_CALLED = 21

abbrev pub DO_CALL : ℕ
DO_CALL = 22

abbrev pub rule_program : ℕ
rule_program = 0

abbrev pub rule_statements : ℕ
rule_statements = 1

abbrev pub rule_statement : ℕ
rule_statement = 2

abbrev pub rule_use : ℕ
rule_use = 3

abbrev pub rule_constant : ℕ
rule_constant = 4

abbrev pub rule_square : ℕ
rule_square = 5

abbrev pub rule_block : ℕ
rule_block = 6

abbrev pub rule_e : ℕ
rule_e = 7

abbrev pub rule_members : ℕ
rule_members = 8

abbrev pub rule_arguments : ℕ
rule_arguments = 9

abbrev pub rule_items : ℕ
rule_items = 10

abbrev pub rule_simple : ℕ
rule_simple = 11

unfoldable pub grammar : Rules
grammar =
    -- program =
    ((Token FUNCTION ∷ Token QUERY ∷ Token OPEN ∷ Token W ∷ Token COMMA ∷ Token RT ∷ Token CLOSE ∷
    Token OPEN_BRACE ∷ Action DO_NO_STATEMENTS ∷ Rule rule_statements ∷ Token RETURN ∷ Rule rule_e ∷
    Token SEMICOLON ∷ Token CLOSE_BRACE ∷ []) ∷
    []) ∷
    -- statements =
    ((Rule rule_statement ∷ Action DO_STATEMENT ∷ Rule rule_statements ∷ []) ∷
    [] ∷
    []) ∷
    -- statement =
    ((Token LET ∷ Token VAR ∷ Action DO_NAME ∷ Token SEMICOLON ∷ Action DO_LET ∷ []) ∷
    (Token VAR ∷ Action DO_NAME ∷ Rule rule_use ∷ []) ∷
    (Token CONST ∷ Token VAR ∷ Action DO_NAME ∷ Token EQUALS ∷ Rule rule_constant ∷ []) ∷
    (Token FOR ∷ Token OPEN ∷ Token CONST ∷ Token VAR ∷ Action DO_NAME ∷ Token OF ∷ Rule rule_e ∷
    Token CLOSE ∷ Rule rule_block ∷ Action DO_FOR ∷ []) ∷
    (Token IF ∷ Token OPEN ∷ Rule rule_e ∷ Token CLOSE ∷ Rule rule_block ∷ Token ELSE ∷ Rule rule_block ∷
    Action DO_IF ∷ []) ∷
    (Rule rule_block ∷ Action DO_BLOCK ∷ []) ∷
    []) ∷
    -- use =
    ((Token EQUALS ∷ Rule rule_e ∷ Token SEMICOLON ∷ Action DO_SET ∷ []) ∷
    (Token DOT ∷ Token PUSH ∷ Token OPEN ∷ Rule rule_e ∷ Token CLOSE ∷ Token SEMICOLON ∷ Action DO_PUSH ∷
    []) ∷
    []) ∷
    -- constant =
    ((Rule rule_simple ∷ Token SEMICOLON ∷ Action DO_CONST ∷ []) ∷
    (Token OPEN_SQUARE ∷ Rule rule_square ∷ []) ∷
    []) ∷
    -- square =
    ((Token CLOSE_SQUARE ∷ Token SEMICOLON ∷ Rule rule_block ∷ Action DO_COLLECT ∷ []) ∷
    (Action DO_NONE ∷ Rule rule_e ∷ Action DO_ITEM ∷ Rule rule_items ∷ Token CLOSE_SQUARE ∷
    Action DO_ARRAY ∷ Token SEMICOLON ∷ Action DO_CONST ∷ []) ∷
    []) ∷
    -- block =
    ((Token OPEN_BRACE ∷ Action DO_NO_STATEMENTS ∷ Rule rule_statements ∷ Token CLOSE_BRACE ∷ []) ∷
    []) ∷
    -- e =
    ((Rule rule_simple ∷ []) ∷
    (Token OPEN_SQUARE ∷ Action DO_NONE ∷ Rule rule_members ∷ Action DO_ARRAY ∷ []) ∷
    []) ∷
    -- members =
    ((Token CLOSE_SQUARE ∷ []) ∷
    (Rule rule_e ∷ Action DO_ITEM ∷ Rule rule_items ∷ Token CLOSE_SQUARE ∷ []) ∷
    []) ∷
    -- arguments =
    ((Token CLOSE ∷ []) ∷
    (Rule rule_e ∷ Action DO_ITEM ∷ Rule rule_items ∷ Token CLOSE ∷ []) ∷
    []) ∷
    -- items =
    ((Token COMMA ∷ Rule rule_e ∷ Action DO_ITEM ∷ Rule rule_items ∷ []) ∷
    [] ∷
    []) ∷
    -- simple =
    ((Token VAR ∷ Action DO_VARIABLE ∷ []) ∷
    (Token W ∷ Action DO_WORLD ∷ []) ∷
    (Token TRUE ∷ Action DO_TRUE ∷ []) ∷
    (Token FALSE ∷ Action DO_FALSE ∷ []) ∷
    (Token NULL ∷ Action DO_NULL ∷ []) ∷
    (Token INT ∷ Action DO_INT ∷ []) ∷
    (Token TEXT ∷ Action DO_TEXT ∷ []) ∷
    (Token RT ∷ Token DOT ∷ Token FN ∷ Action DO_CALLED ∷ Token OPEN ∷ Action DO_NONE ∷
    Rule rule_arguments ∷ Action DO_CALL ∷ []) ∷
    []) ∷
    []
