use Rattle.std.proofs.Common.{sym, ◌∙◌}
use Rattle.qc_types.proofs.Places.{found_class, no_class}
use Rattle.qc_types.proofs.index.ClassIndex.find.Goals as goal

pub returns-in-Some : goal.returns-in-Some
returns-in-Some c =
    c.at.ensures ∙ found_class c.args.self.now c.args.name.now c.in-Some.place (sym c.in-Some.ensures.value)

pub returns-in-None : goal.returns-in-None
returns-in-None c = sym (no_class c.args.self.now c.args.name.now (sym c.in-None.ensures.value))
