use Rattle.qc_to_js.proofs.Whole.{program_answers, program_fits}
use Rattle.qc_to_js.proofs.programs.to_js.Goals as goal

pub of-requires : goal.of-requires
of-requires c =
    program_fits c.args.schema.now c.args.program.now c.in_ok-body.body c.in_ok-body.ensures c.requires

pub returns : goal.returns
returns c =
    rw c.of.ensures (program_answers c.args.schema.now c.args.program.now c.in_ok-body.body c.in_ok-body.ensures)
