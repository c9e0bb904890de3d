use Rattle.std.proofs.Common.{◌≡◌, ◌+◌, length}
use Rattle.std.specs.Prelude.{chars}
use denote.Shadow.{shadow}
use denote.Text.{Utf8}
use Rattle.qc_like.specs.Patterns.{is_like}
use Rattle.qc_like.proofs.Patterns.{meets}
use Rattle.qc_like.proofs.pattern.like.Given as goal

abbrev pub invariant-loop-rest : goal.invariant-loop-rest
invariant-loop-rest l = record {
  same : is_like l.fn.pattern l.fn.text ≡ meets l.behind_run (chars l.pattern) (chars l.text);
  pattern_is : shadow (Utf8 l.pattern);
  text_is : shadow (Utf8 l.text);
}

abbrev pub decreases-loop-rest : goal.decreases-loop-rest
decreases-loop-rest l = length l.pattern + length l.text
