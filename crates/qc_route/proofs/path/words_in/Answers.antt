use Rattle.std.proofs.Common.{arith}
use Rattle.qc_route.proofs.Pieces.{past_comma, past_other, stuck_at_comma}
use Rattle.qc_route.proofs.path.words_in.Goals.{then-text-at-eq44+in_ok-put_word, else-text-at-eq44}
use Rattle.qc_route.proofs.path.words_in.Goals as goal

pub returns-in_err-put_word-clause-none : goal.returns-in_err-put_word-clause-none
returns-in_err-put_word-clause-none c =
    λ e. stuck_at_comma c.args.text.now c.loop-at.words.items c.loop-at.from c.loop-at.at 0 c.loop-at.invariant.0
    c.loop-at-test.true c.loop-at.invariant.1 c.if-text-at-eq44.true (c.put_word.ensures.none c.in_err-put_word.was)

pub loop-at-preserved : goal.loop-at-preserved
loop-at-preserved c = elim c.if-text-at-eq44.branch [
  | then-text-at-eq44+in_ok-put_word w ↦
      rw (w.words-is, w.from-is) (
        omega arith,
        past_comma c.args.text.now c.loop-at.words.items c.loop-at.from c.loop-at.at 0 c.loop-at.invariant.0
            c.loop-at-test.true c.loop-at.invariant.1 _ w.if-text-at-eq44.true w.in_ok-put_word.ensures.some,
      )
  | else-text-at-eq44 w ↦
      rw (w.words-is, w.from-is) (
        omega (arith, c.loop-at.invariant.0),
        past_other c.args.text.now c.loop-at.words.items c.loop-at.from c.loop-at.at 0 c.loop-at.invariant.0
            c.loop-at-test.true c.loop-at.invariant.1 w.if-text-at-eq44.false,
      )
]
