use Rattle.std.proofs.Common.{◌≡◌, drop, map}
use Rattle.qc_oql_tree.specs.Lexemes.{kind_in}
use Rattle.qc_oql_tree.proofs.words.kind_in.Given as goal

-- what the whole table says of the piece is what the rest of it says
abbrev pub invariant-loop-text : goal.invariant-loop-text
invariant-loop-text l = kind_in (map (λ entry. (entry.0.now, entry.1)) l.table) l.other l.piece
    ≡ kind_in (map (λ entry. (entry.0.now, entry.1)) (drop l.text-index l.table)) l.other l.piece
