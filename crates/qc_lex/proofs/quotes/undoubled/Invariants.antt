use Rattle.std.proofs.Common.{◌≡◌, ◌++◌, false, drop}
use Rattle.qc_lex.specs.Pieces.{undoubled}
use Rattle.qc_lex.proofs.quotes.undoubled.Given as goal

abbrev pub invariant-loop-byte : goal.invariant-loop-byte
invariant-loop-byte l =
    l.kept.items ++ undoubled l.quote l.second (drop l.byte-index l.bytes) ≡ undoubled l.quote false l.bytes
