use Rattle.std.proofs.Common.{◌≡◌, ◌++◌, drop}
use Rattle.std.specs.String.{string_bytes}
use Rattle.qc_trees.specs.OperatorTexts.{after_spaces}
use Rattle.qc_trees.proofs.operator_texts.push_after.Given as goal

-- what is left to be put
abbrev pub invariant-loop-name : goal.invariant-loop-name
invariant-loop-name l =
    string_bytes l.initial.text ++ after_spaces l.names
    ≡ string_bytes l.text ++ after_spaces (drop l.name-index l.names)
