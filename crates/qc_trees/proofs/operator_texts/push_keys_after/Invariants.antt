use Rattle.std.proofs.Common.{◌≡◌, ◌++◌, drop}
use Rattle.std.specs.String.{string_bytes}
use Rattle.qc_trees.specs.OperatorTexts.{keys_after}
use Rattle.qc_trees.proofs.operator_texts.push_keys_after.Given as goal

-- what is left to be put
abbrev pub invariant-loop-key : goal.invariant-loop-key
invariant-loop-key l =
    string_bytes l.initial.text ++ keys_after l.keys ≡ string_bytes l.text ++ keys_after (drop l.key-index l.keys)
