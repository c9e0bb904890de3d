-- The grammar of OQL: from which token on and up to which one a tree is spelled, one case for each alternative.
use Rattle.std.specs.Prelude.{◌≡◌, ℕ, suc, ℤ, neg_ℤ, Bool, true, false, List, [], ◌∷◌, ◌++◌, length, map}
use Rattle.std.specs.Prelude.{slice_get}
use Rattle.std.specs.Prelude.{Option, Some, None}
use Rattle.qc_lex.specs.declared.token.Lexeme.{Lexeme}
use Rattle.qc_oql_tree.specs.declared.tree.Oql.{Oql}
use Rattle.qc_oql_tree.specs.declared.tree.Oql.TheVariants as tree
use Rattle.qc_oql_tree.specs.declared.tree.Named.{Named}
use Rattle.qc_oql_tree.specs.declared.tree.Select.{Select}
use Rattle.qc_oql_tree.specs.declared.tree.Filter.{Filter}
use Rattle.qc_oql_tree.specs.declared.tree.Order.{Order}
use Rattle.qc_oql_tree.specs.declared.tree.Key.{Key}
use Rattle.qc_oql_tree.specs.declared.tree.Query as queries
use Rattle.qc_oql_tree.specs.declared.tree.Quantifier.TheVariants as quantifier
use Rattle.qc_oql_tree.specs.declared.tree.Direction.{Direction}
use Rattle.qc_oql_tree.specs.declared.tree.Direction.TheVariants as direction
use Rattle.qc_oql_tree.specs.TokenKinds.{NAME, DEFINE, AS, SELECT, DISTINCT, FROM, WHERE, ORDER, BY, IN, ASC, DESC, IF}
use Rattle.qc_oql_tree.specs.TokenKinds.{THEN, ELSE, EXISTS, FOR, ALL, OR, AND, NOT, LIKE, STRUCT, BAG, MATCH, LEFT}
use Rattle.qc_oql_tree.specs.TokenKinds.{RIGHT, NONZERO, TEXT, OPEN, CLOSE, COMMA, DOT, COLON, SEMICOLON, MINUS, TIMES}
use Rattle.qc_oql_tree.specs.TokenKinds.{WHOLES, CONSTANTS, SETS, SUMS, DIVISIONS, TESTS, UNARIES, BINARIES, BRANDINGS}
use Rattle.qc_oql_tree.specs.TokenKinds.{LABELS, among}
use Rattle.qc_oql_tree.specs.Lexemes.{kind, whole, content, lexeme_at}
use Rattle.qc_oql_tree.specs.Trees.{named, select, filter, order, key}
use Rattle.qc_oql_tree.specs.OperatorTokens.{constant_of, unary_of, binary_of, division_of, branding_of}

module _ (tokens : List Lexeme) where
  -- the kind of the token at a place
  abbrev pub kind_at : ℕ → ℕ
  kind_at i = kind (lexeme_at tokens i)

  -- the text of the token at a place
  abbrev pub text_at : ℕ → List ℕ
  text_at i = (lexeme_at tokens i).piece

  -- there is a token of this kind at the place
  abbrev pub Is : ℕ → ℕ → Type 0
  Is i k = slice_get (map kind tokens) i ≡ Some k

  -- there is a token of one of these kinds at the place
  abbrev pub Among : ℕ → List ℕ → Type 0
  Among i ks = (k : ℕ) × Is i k × (among k ks ≡ true)

  mutual
    -- expr = "select" selection | q
    pub data Expr : ℕ → ℕ → Oql → Type 0 where
      selected : {i j : ℕ} {x : Select} → Is i SELECT → Selection (suc i) j x → Expr i j (tree.Select i x)
      value : {i j : ℕ} {x : Oql} → Q i j x → Expr i j x

    -- selection = projection "from" bindings [ "where" q ] [ "order" "by" keys ]
    pub data Selection : ℕ → ℕ → Select → Type 0 where
      selection : {i j k l m : ℕ} {d : Bool} {x : Oql} {bs : List Named} {f : Option Filter} {o : Option Order}
          → Projection i j d x → Is j FROM → Bindings (suc j) k bs → Filtered k l f → Ordered l m o
          → Selection i m (select d x bs f o)

    -- projection = "distinct" q | q, which does not begin with "distinct"
    pub data Projection : ℕ → ℕ → Bool → Oql → Type 0 where
      distinct : {i j : ℕ} {x : Oql} → Is i DISTINCT → Q (suc i) j x → Projection i j true x
      all : {i j : ℕ} {x : Oql} → (Is i DISTINCT → ⊥) → Q i j x → Projection i j false x

    -- bindings = binding | bindings "," binding
    pub data Bindings : ℕ → ℕ → List Named → Type 0 where
      one_binding : {i j : ℕ} {b : Named} → Binding i j b → Bindings i j (b ∷ [])
      more_bindings : {i j k : ℕ} {bs : List Named} {b : Named}
          → Bindings i j bs → Is j COMMA → Binding (suc j) k b → Bindings i k (bs ++ b ∷ [])

    -- binding = NAME "in" q
    pub data Binding : ℕ → ℕ → Named → Type 0 where
      binding : {i j : ℕ} {x : Oql} → Is i NAME → Is (suc i) IN → Q (suc (suc i)) j x
          → Binding i j (named i (text_at i) x)

    pub data Filtered : ℕ → ℕ → Option Filter → Type 0 where
      filtered : {i j : ℕ} {x : Oql} → Is i WHERE → Q (suc i) j x → Filtered i j (Some (filter i x))
      unfiltered : {i : ℕ} → Filtered i i None

    pub data Ordered : ℕ → ℕ → Option Order → Type 0 where
      ordered : {i j : ℕ} {ks : List Key} → Is i ORDER → Is (suc i) BY → Keys (suc (suc i)) j ks
          → Ordered i j (Some (order i ks))
      unordered : {i : ℕ} → Ordered i i None

    -- keys = key | keys "," key
    pub data Keys : ℕ → ℕ → List Key → Type 0 where
      one_key : {i j : ℕ} {k : Key} → SortKey i j k → Keys i j (k ∷ [])
      more_keys : {i j l : ℕ} {ks : List Key} {k : Key} → Keys i j ks → Is j COMMA → SortKey (suc j) l k
          → Keys i l (ks ++ k ∷ [])

    -- key = q [ "asc" | "desc" ]
    pub data SortKey : ℕ → ℕ → Key → Type 0 where
      sort_key : {i j k : ℕ} {x : Oql} {d : Direction} → Q i j x → Directed j k d → SortKey i k (key x d)

    pub data Directed : ℕ → ℕ → Direction → Type 0 where
      ascending : {i : ℕ} → Is i ASC → Directed i (suc i) direction.Asc
      descending : {i : ℕ} → Is i DESC → Directed i (suc i) direction.Desc
      undirected : {i : ℕ} → Directed i i direction.Asc

    -- q = "if" q "then" q "else" q | "exists" binding ":" q | "for" "all" binding ":" q | or
    pub data Q : ℕ → ℕ → Oql → Type 0 where
      if_else : {i j k l : ℕ} {x y z : Oql}
          → Is i IF → Q (suc i) j x → Is j THEN → Q (suc j) k y → Is k ELSE → Q (suc k) l z
          → Q i l (tree.If i x y z)
      exists : {i j k : ℕ} {b : Named} {x : Oql}
          → Is i EXISTS → Binding (suc i) j b → Is j COLON → Q (suc j) k x
          → Q i k (tree.Quantified i quantifier.Exists b x)
      for_all : {i j k : ℕ} {b : Named} {x : Oql}
          → Is i FOR → Is (suc i) ALL → Binding (suc (suc i)) j b → Is j COLON → Q (suc j) k x
          → Q i k (tree.Quantified i quantifier.ForAll b x)
      simple : {i j : ℕ} {x : Oql} → Or i j x → Q i j x

    -- or = or "or" and | and
    pub data Or : ℕ → ℕ → Oql → Type 0 where
      or : {i j k : ℕ} {x y : Oql} → Or i j x → Is j OR → And (suc j) k y
          → Or i k (tree.Binary j (binary_of (kind_at j)) x y)
      one_or : {i j : ℕ} {x : Oql} → And i j x → Or i j x

    -- and = and "and" not | not
    pub data And : ℕ → ℕ → Oql → Type 0 where
      and : {i j k : ℕ} {x y : Oql}
          → And i j x → Is j AND → Not (suc j) k y → And i k (tree.Binary j (binary_of (kind_at j)) x y)
      one_and : {i j : ℕ} {x : Oql} → Not i j x → And i j x

    -- not = "not" not | rel
    pub data Not : ℕ → ℕ → Oql → Type 0 where
      not : {i j : ℕ} {x : Oql} → Is i NOT → Not (suc i) j x → Not i j (tree.Unary i (unary_of (kind_at i)) x)
      test : {i j : ℕ} {x : Oql} → Rel i j x → Not i j x

    -- rel = sets [ ( "=" | "!=" | "<" | "<=" | ">" | ">=" | "in" ) sets | "like" TEXT ]
    pub data Rel : ℕ → ℕ → Oql → Type 0 where
      compared : {i j k : ℕ} {x y : Oql}
          → Sets i j x → Among j TESTS → Sets (suc j) k y → Rel i k (tree.Binary j (binary_of (kind_at j)) x y)
      like : {i j : ℕ} {x : Oql} → Sets i j x → Is j LIKE → Is (suc j) TEXT
          → Rel i (suc (suc j)) (tree.Like j x (content (lexeme_at tokens (suc j))))
      untested : {i j : ℕ} {x : Oql} → Sets i j x → Rel i j x

    -- sets = sets ( "union" | "except" | "intersect" ) sum | sum
    pub data Sets : ℕ → ℕ → Oql → Type 0 where
      sets : {i j k : ℕ} {x y : Oql}
          → Sets i j x → Among j SETS → Sum (suc j) k y → Sets i k (tree.Binary j (binary_of (kind_at j)) x y)
      one_set : {i j : ℕ} {x : Oql} → Sum i j x → Sets i j x

    -- sum = sum ( "+" | "-" | "||" ) product | product
    pub data Sum : ℕ → ℕ → Oql → Type 0 where
      sum : {i j k : ℕ} {x y : Oql}
          → Sum i j x → Among j SUMS → Product (suc j) k y → Sum i k (tree.Binary j (binary_of (kind_at j)) x y)
      one_summand : {i j : ℕ} {x : Oql} → Product i j x → Sum i j x

    -- product = product "*" neg | product ( "/" | "mod" ) divisor | neg
    pub data Product : ℕ → ℕ → Oql → Type 0 where
      times : {i j k : ℕ} {x y : Oql}
          → Product i j x → Is j TIMES → Neg (suc j) k y
          → Product i k (tree.Binary j (binary_of (kind_at j)) x y)
      divided : {i j k : ℕ} {x : Oql} {n : ℤ}
          → Product i j x → Among j DIVISIONS → Divisor (suc j) k n
          → Product i k (tree.Divide j (division_of (kind_at j)) x n)
      one_factor : {i j : ℕ} {x : Oql} → Neg i j x → Product i j x

    -- divisor = [ "-" ] NONZERO
    pub data Divisor : ℕ → ℕ → ℤ → Type 0 where
      negative : {i : ℕ} → Is i MINUS → Is (suc i) NONZERO
          → Divisor i (suc (suc i)) (neg_ℤ (whole (lexeme_at tokens (suc i))))
      positive : {i : ℕ} → Is i NONZERO → Divisor i (suc i) (whole (lexeme_at tokens i))

    -- neg = "-" neg | path
    pub data Neg : ℕ → ℕ → Oql → Type 0 where
      neg : {i j : ℕ} {x : Oql} → Is i MINUS → Neg (suc i) j x → Neg i j (tree.Unary i (unary_of (kind_at i)) x)
      unsigned : {i j : ℕ} {x : Oql} → Path i j x → Neg i j x

    -- path = path "." LABEL | atom
    pub data Path : ℕ → ℕ → Oql → Type 0 where
      dot : {i j : ℕ} {x : Oql} → Path i j x → Is j DOT → Among (suc j) LABELS
          → Path i (suc (suc j)) (tree.Dot (suc j) x (text_at (suc j)))
      one_atom : {i j : ℕ} {x : Oql} → Atom i j x → Path i j x

    -- atom = WHOLE | TEXT | "true" | "false" | "nil" | NAME | "(" expr ")" | "struct" "(" fields ")"
    -- | "bag" "(" members ")" | unary "(" expr ")" | binary "(" q "," q ")"
    -- | ( "cast" | "brand" ) "(" NAME "," expr ")" | "match" "(" q "," "left" NAME ":" q "," "right" NAME ":" q ")"
    pub data Atom : ℕ → ℕ → Oql → Type 0 where
      number : {i : ℕ} → Among i WHOLES → Atom i (suc i) (tree.Whole i (whole (lexeme_at tokens i)))
      text : {i : ℕ} → Is i TEXT → Atom i (suc i) (tree.Text i (content (lexeme_at tokens i)))
      constant : {i : ℕ} → Among i CONSTANTS → Atom i (suc i) (tree.Constant i (constant_of (kind_at i)))
      name : {i : ℕ} → Is i NAME → Atom i (suc i) (tree.Name i (text_at i))
      parens : {i j : ℕ} {x : Oql} → Is i OPEN → Expr (suc i) j x → Is j CLOSE → Atom i (suc j) x
      struct : {i j : ℕ} {fs : List Named}
          → Is i STRUCT → Is (suc i) OPEN → Fields (suc (suc i)) j fs → Is j CLOSE
          → Atom i (suc j) (tree.Struct i fs)
      bag : {i j : ℕ} {xs : List Oql} → Is i BAG → Is (suc i) OPEN → Members (suc (suc i)) j xs → Is j CLOSE
          → Atom i (suc j) (tree.Bag i xs)
      call : {i j : ℕ} {x : Oql} → Among i UNARIES → Is (suc i) OPEN → Expr (suc (suc i)) j x → Is j CLOSE
          → Atom i (suc j) (tree.Unary i (unary_of (kind_at i)) x)
      call_two : {i j k : ℕ} {x y : Oql}
          → Among i BINARIES → Is (suc i) OPEN → Q (suc (suc i)) j x → Is j COMMA → Q (suc j) k y
          → Is k CLOSE → Atom i (suc k) (tree.Binary i (binary_of (kind_at i)) x y)
      brand : {i j : ℕ} {x : Oql} → Among i BRANDINGS → Is (suc i) OPEN → Is (suc (suc i)) NAME
          → Is (suc (suc (suc i))) COMMA → Expr (suc (suc (suc (suc i)))) j x → Is j CLOSE
          → Atom i (suc j) (tree.Brand i (branding_of (kind_at i)) (text_at (suc (suc i))) x)
      match : {i j k l : ℕ} {x : Oql} {left right : Named} → Is i MATCH → Is (suc i) OPEN → Q (suc (suc i)) j x
          → Is j COMMA → Case LEFT (suc j) k left → Is k COMMA → Case RIGHT (suc k) l right → Is l CLOSE
          → Atom i (suc l) (tree.Match i x left right)

    -- fields = [ field { "," field } ]
    pub data Fields : ℕ → ℕ → List Named → Type 0 where
      no_fields : {i : ℕ} → Fields i i []
      fields : {i j : ℕ} {fs : List Named} → SomeFields i j fs → Fields i j fs

    pub data SomeFields : ℕ → ℕ → List Named → Type 0 where
      one_field : {i j : ℕ} {f : Named} → Field i j f → SomeFields i j (f ∷ [])
      more_fields : {i j k : ℕ} {fs : List Named} {f : Named}
          → SomeFields i j fs → Is j COMMA → Field (suc j) k f → SomeFields i k (fs ++ f ∷ [])

    -- field = LABEL ":" q
    pub data Field : ℕ → ℕ → Named → Type 0 where
      field : {i j : ℕ} {x : Oql} → Among i LABELS → Is (suc i) COLON → Q (suc (suc i)) j x
          → Field i j (named i (text_at i) x)

    -- members = [ q { "," q } ]
    pub data Members : ℕ → ℕ → List Oql → Type 0 where
      no_members : {i : ℕ} → Members i i []
      members : {i j : ℕ} {xs : List Oql} → SomeMembers i j xs → Members i j xs

    pub data SomeMembers : ℕ → ℕ → List Oql → Type 0 where
      one_member : {i j : ℕ} {x : Oql} → Q i j x → SomeMembers i j (x ∷ [])
      more_members : {i j k : ℕ} {xs : List Oql} {x : Oql}
          → SomeMembers i j xs → Is j COMMA → Q (suc j) k x → SomeMembers i k (xs ++ x ∷ [])

    -- a case of a match: its word, NAME ":" q
    pub data Case : ℕ → ℕ → ℕ → Named → Type 0 where
      case : {side i j : ℕ} {x : Oql}
          → Is i side → Is (suc i) NAME → Is (suc (suc i)) COLON → Q (suc (suc (suc i))) j x
          → Case side i j (named (suc i) (text_at (suc i)) x)

  -- defines = { "define" NAME "as" expr ";" }
  pub data Defines : ℕ → ℕ → List Named → Type 0 where
    no_define : {i : ℕ} → Defines i i []
    more_defines : {i j k : ℕ} {ds : List Named} {x : Oql} → Defines i j ds → Is j DEFINE → Is (suc j) NAME
        → Is (suc (suc j)) AS → Expr (suc (suc (suc j))) k x → Is k SEMICOLON
        → Defines i (suc k) (ds ++ named (suc j) (text_at (suc j)) x ∷ [])

  -- [ ";" ]
  pub data Ending : ℕ → ℕ → Type 0 where
    ended : {i : ℕ} → Is i SEMICOLON → Ending i (suc i)
    unended : {i : ℕ} → Ending i i

  -- query = defines expr [ ";" ], all tokens
  pub data Query : queries.Query → Type 0 where
    query : {i j : ℕ} {ds : List Named} {x : Oql} → Defines 0 i ds → Expr i j x → Ending j (length tokens)
        → Query (record { defines = ds; body = x })
