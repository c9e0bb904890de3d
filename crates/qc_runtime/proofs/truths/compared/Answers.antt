use Rattle.std.proofs.Common.{rules, ◌∙◌}
use Rattle.qc_runtime.proofs.Comparing.{ints_compared, texts_compared}
use Rattle.qc_runtime.proofs.truths.compared.Goals as goal

pub returns-in-Int-Int : goal.returns-in-Int-Int
returns-in-Int-Int c =
    ints_compared c.args.a.now c.args.b.now c.in-Int-Int.m c.in-Int-Int.n c.in-Int-Int.is-0 c.in-Int-Int.is-1
    ∙ search rules

pub returns-in-Text-Text : goal.returns-in-Text-Text
returns-in-Text-Text c =
    texts_compared c.args.a.now c.args.b.now c.in-Text-Text.s c.in-Text-Text.t c.in-Text-Text.is-0 c.in-Text-Text.is-1
    ∙ search rules
