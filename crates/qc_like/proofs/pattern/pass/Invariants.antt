use Rattle.std.proofs.Common.{◌≡◌, ◌≤◌, length}
use Rattle.std.specs.Prelude.{chars}
use denote.Shadow.{shadow}
use denote.Text.{Utf8}
use Rattle.qc_like.specs.inner.Likeness.{passed}
use Rattle.qc_like.proofs.pattern.pass.Given as goal

abbrev pub invariant-loop-p : goal.invariant-loop-p
invariant-loop-p l = record {
  same : passed (chars l.fn.pattern) (chars l.fn.text) ≡ passed (chars l.pattern) (chars l.text);
  pattern_left : length l.pattern ≤ length l.fn.pattern;
  text_left : length l.text ≤ length l.fn.text;
  pattern_is : shadow (Utf8 l.pattern);
  text_is : shadow (Utf8 l.text);
}

abbrev pub decreases-loop-p : goal.decreases-loop-p
decreases-loop-p l = length l.pattern
