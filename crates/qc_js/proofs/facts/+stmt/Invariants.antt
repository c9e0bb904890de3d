use Rattle.std.proofs.Common.{◌≡◌, drop, map}
use Rattle.qc_js.specs.Held.{all_true, holds_stmt}
use Rattle.qc_js.proofs.facts.+stmt.Given as goal

-- what is left decides
abbrev pub invariant-held_block-loop-s : goal.invariant-held_block-loop-s
invariant-held_block-loop-s l =
    all_true (map holds_stmt l.block) ≡ all_true (map holds_stmt (drop l.s-index l.block))
