use Rattle.std.proofs.Common.{◌≡◌, ◌≤◌, drop}
use Rattle.qc_js_text.specs.inner.Depths.{shallow_from}
use Rattle.qc_js_text.proofs.depth.is_shallow.Given as goal

-- what is left decides
abbrev pub invariant-loop-lexeme : goal.invariant-loop-lexeme
invariant-loop-lexeme l =
    (shallow_from l.most 0 l.lexemes ≡ shallow_from l.most l.count (drop l.lexeme-index l.lexemes)) × (l.count ≤ l.most)
