-- The queries that tokens spell by the table.
use Rattle.std.specs.Prelude.{List}
use Rattle.qc_grammar.specs.inner.Language as language
use Rattle.qc_lex.specs.declared.token.Lexeme.{Lexeme}
use Rattle.qc_oql_tree.specs.declared.tree.Query.{Query}
use Rattle.qc_oql_tree.specs.Lexemes.{kind}
use Rattle.qc_oql_table.specs.Actions.{query_of}
use Rattle.qc_oql_table.specs.Table.{grammar}

-- the tokens have a derivation whose actions make the query
abbrev pub Means : List Lexeme → Query → Type 0
Means ts query = language.Means grammar kind query_of ts query
