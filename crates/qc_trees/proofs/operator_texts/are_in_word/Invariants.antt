use Rattle.std.proofs.Common.{◌≡◌, drop}
use Rattle.std.specs.List.{list_all}
use Rattle.qc_trees.specs.OperatorTexts.{in_word}
use Rattle.qc_trees.proofs.operator_texts.are_in_word.Given as goal

-- what is left decides
abbrev pub invariant-loop-byte : goal.invariant-loop-byte
invariant-loop-byte l = list_all in_word l.bytes ≡ list_all in_word (drop l.byte-index l.bytes)
