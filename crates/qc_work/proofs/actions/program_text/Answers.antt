use Rattle.std.proofs.Common.{IsTrue, subst}
use Rattle.qc_js.specs.Held.{holds_program}
use Rattle.qc_work.proofs.Right.{right}
use Rattle.qc_work.proofs.actions.program_text.Goals as goal

pub returns : goal.returns
returns c = (
  right c.args.checked.schema c.args.checked.query c.requires.typed c.in_ok-js.js c.in_ok-js.ensures
      (subst (λ p. IsTrue (holds_program p)) c.program.ensures.same c.held.ensures) c.program.ensures.good
      c.one_program.ensures,
  λ r u. u,
)
