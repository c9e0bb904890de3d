use Rattle.std.proofs.Common.{◌≡◌, map, length, take}
use Rattle.qc_lex.specs.Words.{lexemes}
use Rattle.qc_oql_tree.specs.Lexemes.{kind}
use Rattle.qc_oql_table.proofs.reading.kinds.Given as goal

abbrev pub invariant-loop-at : goal.invariant-loop-at
invariant-loop-at l = (l.kinds ≡ map kind (take l.at (lexemes l.words))) × (length l.kinds ≡ l.at)
