use Rattle.qc_to_js.proofs.Stated.{no_statements}
use Rattle.qc_to_js.proofs.Whole.{not_block}
use Rattle.qc_to_js.proofs.programs.body_of.Goals as goal

pub returns-in_default : goal.returns-in_default
returns-in_default c =
    rw (not_block c.args.body.now c.in_default.not-Block, c.new.ensures) (no_statements c.args.schema.now.classes)
