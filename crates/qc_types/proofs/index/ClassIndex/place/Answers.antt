use Rattle.std.proofs.Common.{ap, None, Some, ◌∙◌}
use Rattle.qc_types.specs.inner.Places.{place_of}
use Rattle.qc_types.proofs.Indexing.{place_is}
use Rattle.qc_types.proofs.index.ClassIndex.place.Goals as goal

pub returns-in-Some-clause-value : goal.returns-in-Some-clause-value
returns-in-Some-clause-value c = let i = c.self.inside in
    place_is i.entries i.places c.self.invariant c.args.name.now (Some c.in-Some.place.now) c.in-Some.ensures
    ∙ ap (λ d. place_of d c.args.name.now) c.self.view_is

pub returns-in-None-clause-value : goal.returns-in-None-clause-value
returns-in-None-clause-value c = let i = c.self.inside in
    place_is i.entries i.places c.self.invariant c.args.name.now None c.in-None.ensures
    ∙ ap (λ d. place_of d c.args.name.now) c.self.view_is
