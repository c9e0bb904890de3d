-- The actions, and the rules as their alternatives: the table of oql.grammar, made by tools/table.
use Rattle.std.specs.Prelude.{ℕ, [], ◌∷◌}
use Rattle.qc_grammar.specs.declared.symbol.Symbol.TheVariants.{Token, Rule, Action}
use Rattle.qc_grammar.specs.inner.Derivations.{Rules}
use Rattle.qc_oql_tree.specs.TokenKinds.{NAME, DEFINE, AS, SELECT, DISTINCT, FROM, WHERE, ORDER, BY, IN, ASC, DESC, IF}
use Rattle.qc_oql_tree.specs.TokenKinds.{THEN, ELSE, EXISTS, FOR, ALL, TRUE, FALSE, NIL, STRUCT, BAG, MATCH, CAST}
use Rattle.qc_oql_tree.specs.TokenKinds.{BRAND, OR, AND, NOT, LIKE, UNION, EXCEPT, INTERSECT, MOD, COUNT, SUM, MIN}
use Rattle.qc_oql_tree.specs.TokenKinds.{MAX, AVG, ELEMENT, FLATTEN, ABS, LEFT, RIGHT, UNBRAND, ORELSE, LEAST}
use Rattle.qc_oql_tree.specs.TokenKinds.{GREATEST, ZERO, NONZERO, TEXT, OPEN, CLOSE, COMMA, DOT, COLON, SEMICOLON}
use Rattle.qc_oql_tree.specs.TokenKinds.{PLUS, MINUS, TIMES, DIVIDE, EQUAL, NOT_EQUAL, LESS, AT_MOST, GREATER}
use Rattle.qc_oql_tree.specs.TokenKinds.{AT_LEAST, GLUE}

abbrev pub DO_NONE : ℕ
DO_NONE = 0

abbrev pub DO_NAME : ℕ
DO_NAME = 1

abbrev pub DO_ENTRY : ℕ
DO_ENTRY = 2

abbrev pub DO_MARK : ℕ
DO_MARK = 3

abbrev pub DO_SELECT_DISTINCT : ℕ
DO_SELECT_DISTINCT = 4

abbrev pub DO_SELECT : ℕ
DO_SELECT = 5

abbrev pub DO_FILTER : ℕ
DO_FILTER = 6

abbrev pub DO_NO_FILTER : ℕ
DO_NO_FILTER = 7

abbrev pub DO_NO_KEYS : ℕ
DO_NO_KEYS = 8

abbrev pub DO_ORDER : ℕ
DO_ORDER = 9

abbrev pub DO_NO_ORDER : ℕ
DO_NO_ORDER = 10

abbrev pub DO_ASC : ℕ
DO_ASC = 11

abbrev pub DO_DESC : ℕ
DO_DESC = 12

abbrev pub DO_IF_ELSE : ℕ
DO_IF_ELSE = 13

abbrev pub DO_FOR_ALL : ℕ
DO_FOR_ALL = 14

abbrev pub DO_EXISTS : ℕ
DO_EXISTS = 15

abbrev pub DO_UNARY : ℕ
DO_UNARY = 16

abbrev pub DO_BINARY : ℕ
DO_BINARY = 17

abbrev pub DO_LIKE : ℕ
DO_LIKE = 18

abbrev pub DO_DIVIDE : ℕ
DO_DIVIDE = 19

abbrev pub DO_NEGATIVE : ℕ
DO_NEGATIVE = 20

abbrev pub DO_POSITIVE : ℕ
DO_POSITIVE = 21

abbrev pub DO_DOT : ℕ
DO_DOT = 22

abbrev pub DO_WHOLE : ℕ
DO_WHOLE = 23

abbrev pub DO_TEXT : ℕ
DO_TEXT = 24

abbrev pub DO_CONSTANT : ℕ
DO_CONSTANT = 25

abbrev pub DO_VARIABLE : ℕ
DO_VARIABLE = 26

abbrev pub DO_STRUCT : ℕ
DO_STRUCT = 27

abbrev pub DO_NO_MEMBERS : ℕ
DO_NO_MEMBERS = 28

abbrev pub DO_BAG : ℕ
DO_BAG = 29

abbrev pub DO_CALL : ℕ
DO_CALL = 30

abbrev pub DO_BRAND : ℕ
DO_BRAND = 31

abbrev pub DO_MATCH : ℕ
DO_MATCH = 32

abbrev pub DO_MEMBER : ℕ
DO_MEMBER = 33

abbrev pub rule_query : ℕ
rule_query = 0

abbrev pub rule_defines : ℕ
rule_defines = 1

abbrev pub rule_end : ℕ
rule_end = 2

abbrev pub rule_expr : ℕ
rule_expr = 3

abbrev pub rule_selection : ℕ
rule_selection = 4

abbrev pub rule_sources : ℕ
rule_sources = 5

abbrev pub rule_bindings : ℕ
rule_bindings = 6

abbrev pub rule_binding : ℕ
rule_binding = 7

abbrev pub rule_filter : ℕ
rule_filter = 8

abbrev pub rule_order : ℕ
rule_order = 9

abbrev pub rule_keys : ℕ
rule_keys = 10

abbrev pub rule_key : ℕ
rule_key = 11

abbrev pub rule_direction : ℕ
rule_direction = 12

abbrev pub rule_q : ℕ
rule_q = 13

abbrev pub rule_q_but_distinct : ℕ
rule_q_but_distinct = 14

abbrev pub rule_q_head : ℕ
rule_q_head = 15

abbrev pub rule_exists_rest : ℕ
rule_exists_rest = 16

abbrev pub rule_or_but_exists : ℕ
rule_or_but_exists = 17

abbrev pub rule_and_but_exists : ℕ
rule_and_but_exists = 18

abbrev pub rule_not_but_exists : ℕ
rule_not_but_exists = 19

abbrev pub rule_rel_but_exists : ℕ
rule_rel_but_exists = 20

abbrev pub rule_sets_but_exists : ℕ
rule_sets_but_exists = 21

abbrev pub rule_sum_but_exists : ℕ
rule_sum_but_exists = 22

abbrev pub rule_product_but_exists : ℕ
rule_product_but_exists = 23

abbrev pub rule_neg_but_exists : ℕ
rule_neg_but_exists = 24

abbrev pub rule_path_but_exists : ℕ
rule_path_but_exists = 25

abbrev pub rule_or_but_both : ℕ
rule_or_but_both = 26

abbrev pub rule_and_but_both : ℕ
rule_and_but_both = 27

abbrev pub rule_not_but_both : ℕ
rule_not_but_both = 28

abbrev pub rule_rel_but_both : ℕ
rule_rel_but_both = 29

abbrev pub rule_sets_but_both : ℕ
rule_sets_but_both = 30

abbrev pub rule_sum_but_both : ℕ
rule_sum_but_both = 31

abbrev pub rule_product_but_both : ℕ
rule_product_but_both = 32

abbrev pub rule_neg_but_both : ℕ
rule_neg_but_both = 33

abbrev pub rule_path_but_both : ℕ
rule_path_but_both = 34

abbrev pub rule_and : ℕ
rule_and = 35

abbrev pub rule_not : ℕ
rule_not = 36

abbrev pub rule_rel : ℕ
rule_rel = 37

abbrev pub rule_sets : ℕ
rule_sets = 38

abbrev pub rule_sum : ℕ
rule_sum = 39

abbrev pub rule_product : ℕ
rule_product = 40

abbrev pub rule_neg : ℕ
rule_neg = 41

abbrev pub rule_path : ℕ
rule_path = 42

abbrev pub rule_or_tail : ℕ
rule_or_tail = 43

abbrev pub rule_and_tail : ℕ
rule_and_tail = 44

abbrev pub rule_rel_tail : ℕ
rule_rel_tail = 45

abbrev pub rule_sets_tail : ℕ
rule_sets_tail = 46

abbrev pub rule_sum_tail : ℕ
rule_sum_tail = 47

abbrev pub rule_product_tail : ℕ
rule_product_tail = 48

abbrev pub rule_divisor : ℕ
rule_divisor = 49

abbrev pub rule_path_tail : ℕ
rule_path_tail = 50

abbrev pub rule_atom : ℕ
rule_atom = 51

abbrev pub rule_atom_but_exists : ℕ
rule_atom_but_exists = 52

abbrev pub rule_atom_but_both : ℕ
rule_atom_but_both = 53

abbrev pub rule_fields : ℕ
rule_fields = 54

abbrev pub rule_more_fields : ℕ
rule_more_fields = 55

abbrev pub rule_field : ℕ
rule_field = 56

abbrev pub rule_members : ℕ
rule_members = 57

abbrev pub rule_more_members : ℕ
rule_more_members = 58

abbrev pub rule_whole : ℕ
rule_whole = 59

abbrev pub rule_constant : ℕ
rule_constant = 60

abbrev pub rule_set : ℕ
rule_set = 61

abbrev pub rule_add : ℕ
rule_add = 62

abbrev pub rule_division : ℕ
rule_division = 63

abbrev pub rule_test : ℕ
rule_test = 64

abbrev pub rule_unary : ℕ
rule_unary = 65

abbrev pub rule_binary : ℕ
rule_binary = 66

abbrev pub rule_branding : ℕ
rule_branding = 67

abbrev pub rule_label : ℕ
rule_label = 68

unfoldable pub grammar : Rules
grammar =
    -- query =
    ((Action DO_NONE ∷ Rule rule_defines ∷ Rule rule_expr ∷ Rule rule_end ∷ []) ∷
    []) ∷
    -- defines =
    ((Token DEFINE ∷ Token NAME ∷ Action DO_NAME ∷ Token AS ∷ Rule rule_expr ∷ Action DO_ENTRY ∷
    Token SEMICOLON ∷ Rule rule_defines ∷ []) ∷
    [] ∷
    []) ∷
    -- end =
    ((Token SEMICOLON ∷ []) ∷
    [] ∷
    []) ∷
    -- expr =
    ((Token SELECT ∷ Action DO_MARK ∷ Rule rule_selection ∷ []) ∷
    (Rule rule_q ∷ []) ∷
    []) ∷
    -- selection =
    ((Token DISTINCT ∷ Rule rule_q ∷ Rule rule_sources ∷ Action DO_SELECT_DISTINCT ∷ []) ∷
    (Rule rule_q_but_distinct ∷ Rule rule_sources ∷ Action DO_SELECT ∷ []) ∷
    []) ∷
    -- sources =
    ((Token FROM ∷ Action DO_NONE ∷ Rule rule_binding ∷ Action DO_ENTRY ∷ Rule rule_bindings ∷
    Rule rule_filter ∷ Rule rule_order ∷ []) ∷
    []) ∷
    -- bindings =
    ((Token COMMA ∷ Rule rule_binding ∷ Action DO_ENTRY ∷ Rule rule_bindings ∷ []) ∷
    [] ∷
    []) ∷
    -- binding =
    ((Token NAME ∷ Action DO_NAME ∷ Token IN ∷ Rule rule_q ∷ []) ∷
    []) ∷
    -- filter =
    ((Token WHERE ∷ Action DO_MARK ∷ Rule rule_q ∷ Action DO_FILTER ∷ []) ∷
    (Action DO_NO_FILTER ∷ []) ∷
    []) ∷
    -- order =
    ((Token ORDER ∷ Action DO_MARK ∷ Token BY ∷ Action DO_NO_KEYS ∷ Rule rule_key ∷ Rule rule_keys ∷
    Action DO_ORDER ∷ []) ∷
    (Action DO_NO_ORDER ∷ []) ∷
    []) ∷
    -- keys =
    ((Token COMMA ∷ Rule rule_key ∷ Rule rule_keys ∷ []) ∷
    [] ∷
    []) ∷
    -- key =
    ((Rule rule_q ∷ Rule rule_direction ∷ []) ∷
    []) ∷
    -- direction =
    ((Token ASC ∷ Action DO_ASC ∷ []) ∷
    (Token DESC ∷ Action DO_DESC ∷ []) ∷
    (Action DO_ASC ∷ []) ∷
    []) ∷
    -- q =
    ((Rule rule_q_head ∷ []) ∷
    (Rule rule_or_but_exists ∷ []) ∷
    []) ∷
    -- q_but_distinct =
    ((Rule rule_q_head ∷ []) ∷
    (Rule rule_or_but_both ∷ []) ∷
    []) ∷
    -- q_head =
    ((Token IF ∷ Action DO_MARK ∷ Rule rule_q ∷ Token THEN ∷ Rule rule_q ∷ Token ELSE ∷ Rule rule_q ∷
    Action DO_IF_ELSE ∷ []) ∷
    (Token FOR ∷ Action DO_MARK ∷ Token ALL ∷ Rule rule_binding ∷ Token COLON ∷ Rule rule_q ∷
    Action DO_FOR_ALL ∷ []) ∷
    (Token EXISTS ∷ Action DO_MARK ∷ Rule rule_exists_rest ∷ []) ∷
    []) ∷
    -- exists_rest =
    ((Rule rule_binding ∷ Token COLON ∷ Rule rule_q ∷ Action DO_EXISTS ∷ []) ∷
    (Token OPEN ∷ Rule rule_expr ∷ Token CLOSE ∷ Action DO_UNARY ∷ Rule rule_path_tail ∷
    Rule rule_product_tail ∷ Rule rule_sum_tail ∷ Rule rule_sets_tail ∷ Rule rule_rel_tail ∷
    Rule rule_and_tail ∷ Rule rule_or_tail ∷ []) ∷
    []) ∷
    -- or_but_exists =
    ((Rule rule_and_but_exists ∷ Rule rule_or_tail ∷ []) ∷
    []) ∷
    -- and_but_exists =
    ((Rule rule_not_but_exists ∷ Rule rule_and_tail ∷ []) ∷
    []) ∷
    -- not_but_exists =
    ((Token NOT ∷ Action DO_MARK ∷ Rule rule_not ∷ Action DO_UNARY ∷ []) ∷
    (Rule rule_rel_but_exists ∷ []) ∷
    []) ∷
    -- rel_but_exists =
    ((Rule rule_sets_but_exists ∷ Rule rule_rel_tail ∷ []) ∷
    []) ∷
    -- sets_but_exists =
    ((Rule rule_sum_but_exists ∷ Rule rule_sets_tail ∷ []) ∷
    []) ∷
    -- sum_but_exists =
    ((Rule rule_product_but_exists ∷ Rule rule_sum_tail ∷ []) ∷
    []) ∷
    -- product_but_exists =
    ((Rule rule_neg_but_exists ∷ Rule rule_product_tail ∷ []) ∷
    []) ∷
    -- neg_but_exists =
    ((Token MINUS ∷ Action DO_MARK ∷ Rule rule_neg ∷ Action DO_UNARY ∷ []) ∷
    (Rule rule_path_but_exists ∷ []) ∷
    []) ∷
    -- path_but_exists =
    ((Rule rule_atom_but_exists ∷ Rule rule_path_tail ∷ []) ∷
    []) ∷
    -- or_but_both =
    ((Rule rule_and_but_both ∷ Rule rule_or_tail ∷ []) ∷
    []) ∷
    -- and_but_both =
    ((Rule rule_not_but_both ∷ Rule rule_and_tail ∷ []) ∷
    []) ∷
    -- not_but_both =
    ((Token NOT ∷ Action DO_MARK ∷ Rule rule_not ∷ Action DO_UNARY ∷ []) ∷
    (Rule rule_rel_but_both ∷ []) ∷
    []) ∷
    -- rel_but_both =
    ((Rule rule_sets_but_both ∷ Rule rule_rel_tail ∷ []) ∷
    []) ∷
    -- sets_but_both =
    ((Rule rule_sum_but_both ∷ Rule rule_sets_tail ∷ []) ∷
    []) ∷
    -- sum_but_both =
    ((Rule rule_product_but_both ∷ Rule rule_sum_tail ∷ []) ∷
    []) ∷
    -- product_but_both =
    ((Rule rule_neg_but_both ∷ Rule rule_product_tail ∷ []) ∷
    []) ∷
    -- neg_but_both =
    ((Token MINUS ∷ Action DO_MARK ∷ Rule rule_neg ∷ Action DO_UNARY ∷ []) ∷
    (Rule rule_path_but_both ∷ []) ∷
    []) ∷
    -- path_but_both =
    ((Rule rule_atom_but_both ∷ Rule rule_path_tail ∷ []) ∷
    []) ∷
    -- and =
    ((Rule rule_not ∷ Rule rule_and_tail ∷ []) ∷
    []) ∷
    -- not =
    ((Token NOT ∷ Action DO_MARK ∷ Rule rule_not ∷ Action DO_UNARY ∷ []) ∷
    (Rule rule_rel ∷ []) ∷
    []) ∷
    -- rel =
    ((Rule rule_sets ∷ Rule rule_rel_tail ∷ []) ∷
    []) ∷
    -- sets =
    ((Rule rule_sum ∷ Rule rule_sets_tail ∷ []) ∷
    []) ∷
    -- sum =
    ((Rule rule_product ∷ Rule rule_sum_tail ∷ []) ∷
    []) ∷
    -- product =
    ((Rule rule_neg ∷ Rule rule_product_tail ∷ []) ∷
    []) ∷
    -- neg =
    ((Token MINUS ∷ Action DO_MARK ∷ Rule rule_neg ∷ Action DO_UNARY ∷ []) ∷
    (Rule rule_path ∷ []) ∷
    []) ∷
    -- path =
    ((Rule rule_atom ∷ Rule rule_path_tail ∷ []) ∷
    []) ∷
    -- or_tail =
    ((Token OR ∷ Action DO_MARK ∷ Rule rule_and ∷ Action DO_BINARY ∷ Rule rule_or_tail ∷ []) ∷
    [] ∷
    []) ∷
    -- and_tail =
    ((Token AND ∷ Action DO_MARK ∷ Rule rule_not ∷ Action DO_BINARY ∷ Rule rule_and_tail ∷ []) ∷
    [] ∷
    []) ∷
    -- rel_tail =
    ((Rule rule_test ∷ Action DO_MARK ∷ Rule rule_sets ∷ Action DO_BINARY ∷ []) ∷
    (Token LIKE ∷ Action DO_MARK ∷ Token TEXT ∷ Action DO_LIKE ∷ []) ∷
    [] ∷
    []) ∷
    -- sets_tail =
    ((Rule rule_set ∷ Action DO_MARK ∷ Rule rule_sum ∷ Action DO_BINARY ∷ Rule rule_sets_tail ∷ []) ∷
    [] ∷
    []) ∷
    -- sum_tail =
    ((Rule rule_add ∷ Action DO_MARK ∷ Rule rule_product ∷ Action DO_BINARY ∷ Rule rule_sum_tail ∷ []) ∷
    [] ∷
    []) ∷
    -- product_tail =
    ((Token TIMES ∷ Action DO_MARK ∷ Rule rule_neg ∷ Action DO_BINARY ∷ Rule rule_product_tail ∷ []) ∷
    (Rule rule_division ∷ Action DO_MARK ∷ Rule rule_divisor ∷ Action DO_DIVIDE ∷ Rule rule_product_tail ∷
    []) ∷
    [] ∷
    []) ∷
    -- divisor =
    ((Token MINUS ∷ Token NONZERO ∷ Action DO_NEGATIVE ∷ []) ∷
    (Token NONZERO ∷ Action DO_POSITIVE ∷ []) ∷
    []) ∷
    -- path_tail =
    ((Token DOT ∷ Rule rule_label ∷ Action DO_DOT ∷ Rule rule_path_tail ∷ []) ∷
    [] ∷
    []) ∷
    -- atom =
    ((Token EXISTS ∷ Action DO_MARK ∷ Token OPEN ∷ Rule rule_expr ∷ Token CLOSE ∷ Action DO_UNARY ∷ []) ∷
    (Rule rule_atom_but_exists ∷ []) ∷
    []) ∷
    -- atom_but_exists =
    ((Token DISTINCT ∷ Action DO_MARK ∷ Token OPEN ∷ Rule rule_expr ∷ Token CLOSE ∷ Action DO_UNARY ∷
    []) ∷
    (Rule rule_atom_but_both ∷ []) ∷
    []) ∷
    -- atom_but_both =
    ((Rule rule_whole ∷ Action DO_WHOLE ∷ []) ∷
    (Token TEXT ∷ Action DO_TEXT ∷ []) ∷
    (Rule rule_constant ∷ Action DO_CONSTANT ∷ []) ∷
    (Token NAME ∷ Action DO_VARIABLE ∷ []) ∷
    (Token OPEN ∷ Rule rule_expr ∷ Token CLOSE ∷ []) ∷
    (Token STRUCT ∷ Action DO_MARK ∷ Token OPEN ∷ Action DO_NONE ∷ Rule rule_fields ∷ Action DO_STRUCT ∷
    []) ∷
    (Token BAG ∷ Action DO_MARK ∷ Token OPEN ∷ Action DO_NO_MEMBERS ∷ Rule rule_members ∷ Action DO_BAG ∷
    []) ∷
    (Rule rule_unary ∷ Action DO_MARK ∷ Token OPEN ∷ Rule rule_expr ∷ Token CLOSE ∷ Action DO_UNARY ∷
    []) ∷
    (Rule rule_binary ∷ Action DO_MARK ∷ Token OPEN ∷ Rule rule_q ∷ Token COMMA ∷ Rule rule_q ∷
    Token CLOSE ∷ Action DO_CALL ∷ []) ∷
    (Rule rule_branding ∷ Action DO_MARK ∷ Token OPEN ∷ Token NAME ∷ Action DO_NAME ∷ Token COMMA ∷
    Rule rule_expr ∷ Token CLOSE ∷ Action DO_BRAND ∷ []) ∷
    (Token MATCH ∷ Action DO_MARK ∷ Token OPEN ∷ Rule rule_q ∷ Token COMMA ∷ Token LEFT ∷ Token NAME ∷
    Action DO_NAME ∷ Token COLON ∷ Rule rule_q ∷ Token COMMA ∷ Token RIGHT ∷ Token NAME ∷ Action DO_NAME ∷
    Token COLON ∷ Rule rule_q ∷ Token CLOSE ∷ Action DO_MATCH ∷ []) ∷
    []) ∷
    -- fields =
    ((Token CLOSE ∷ []) ∷
    (Rule rule_field ∷ Rule rule_more_fields ∷ Token CLOSE ∷ []) ∷
    []) ∷
    -- more_fields =
    ((Token COMMA ∷ Rule rule_field ∷ Rule rule_more_fields ∷ []) ∷
    [] ∷
    []) ∷
    -- field =
    ((Rule rule_label ∷ Action DO_NAME ∷ Token COLON ∷ Rule rule_q ∷ Action DO_ENTRY ∷ []) ∷
    []) ∷
    -- members =
    ((Token CLOSE ∷ []) ∷
    (Rule rule_q ∷ Action DO_MEMBER ∷ Rule rule_more_members ∷ Token CLOSE ∷ []) ∷
    []) ∷
    -- more_members =
    ((Token COMMA ∷ Rule rule_q ∷ Action DO_MEMBER ∷ Rule rule_more_members ∷ []) ∷
    [] ∷
    []) ∷
    -- whole =
    ((Token ZERO ∷ []) ∷
    (Token NONZERO ∷ []) ∷
    []) ∷
    -- constant =
    ((Token TRUE ∷ []) ∷
    (Token FALSE ∷ []) ∷
    (Token NIL ∷ []) ∷
    []) ∷
    -- set =
    ((Token UNION ∷ []) ∷
    (Token EXCEPT ∷ []) ∷
    (Token INTERSECT ∷ []) ∷
    []) ∷
    -- add =
    ((Token PLUS ∷ []) ∷
    (Token MINUS ∷ []) ∷
    (Token GLUE ∷ []) ∷
    []) ∷
    -- division =
    ((Token DIVIDE ∷ []) ∷
    (Token MOD ∷ []) ∷
    []) ∷
    -- test =
    ((Token EQUAL ∷ []) ∷
    (Token NOT_EQUAL ∷ []) ∷
    (Token LESS ∷ []) ∷
    (Token AT_MOST ∷ []) ∷
    (Token GREATER ∷ []) ∷
    (Token AT_LEAST ∷ []) ∷
    (Token IN ∷ []) ∷
    []) ∷
    -- unary =
    ((Token COUNT ∷ []) ∷
    (Token SUM ∷ []) ∷
    (Token MIN ∷ []) ∷
    (Token MAX ∷ []) ∷
    (Token AVG ∷ []) ∷
    (Token ELEMENT ∷ []) ∷
    (Token FLATTEN ∷ []) ∷
    (Token ABS ∷ []) ∷
    (Token LEFT ∷ []) ∷
    (Token RIGHT ∷ []) ∷
    (Token UNBRAND ∷ []) ∷
    []) ∷
    -- binary =
    ((Token ORELSE ∷ []) ∷
    (Token LEAST ∷ []) ∷
    (Token GREATEST ∷ []) ∷
    []) ∷
    -- branding =
    ((Token CAST ∷ []) ∷
    (Token BRAND ∷ []) ∷
    []) ∷
    -- label =
    ((Token NAME ∷ []) ∷
    (Token DEFINE ∷ []) ∷
    (Token AS ∷ []) ∷
    (Token SELECT ∷ []) ∷
    (Token DISTINCT ∷ []) ∷
    (Token FROM ∷ []) ∷
    (Token WHERE ∷ []) ∷
    (Token ORDER ∷ []) ∷
    (Token BY ∷ []) ∷
    (Token IN ∷ []) ∷
    (Token ASC ∷ []) ∷
    (Token DESC ∷ []) ∷
    (Token IF ∷ []) ∷
    (Token THEN ∷ []) ∷
    (Token ELSE ∷ []) ∷
    (Token EXISTS ∷ []) ∷
    (Token FOR ∷ []) ∷
    (Token ALL ∷ []) ∷
    (Token TRUE ∷ []) ∷
    (Token FALSE ∷ []) ∷
    (Token NIL ∷ []) ∷
    (Token STRUCT ∷ []) ∷
    (Token BAG ∷ []) ∷
    (Token MATCH ∷ []) ∷
    (Token CAST ∷ []) ∷
    (Token BRAND ∷ []) ∷
    (Token OR ∷ []) ∷
    (Token AND ∷ []) ∷
    (Token NOT ∷ []) ∷
    (Token LIKE ∷ []) ∷
    (Token UNION ∷ []) ∷
    (Token EXCEPT ∷ []) ∷
    (Token INTERSECT ∷ []) ∷
    (Token MOD ∷ []) ∷
    (Token COUNT ∷ []) ∷
    (Token SUM ∷ []) ∷
    (Token MIN ∷ []) ∷
    (Token MAX ∷ []) ∷
    (Token AVG ∷ []) ∷
    (Token ELEMENT ∷ []) ∷
    (Token FLATTEN ∷ []) ∷
    (Token ABS ∷ []) ∷
    (Token LEFT ∷ []) ∷
    (Token RIGHT ∷ []) ∷
    (Token UNBRAND ∷ []) ∷
    (Token ORELSE ∷ []) ∷
    (Token LEAST ∷ []) ∷
    (Token GREATEST ∷ []) ∷
    []) ∷
    []
