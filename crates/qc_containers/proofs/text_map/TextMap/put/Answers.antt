use Rattle.std.proofs.Common.{ap, arith, length, sym, ◌∙◌}
use Rattle.qc_containers.proofs.Putting.{below-le, put_in, Rising-put_in}
use Rattle.qc_containers.proofs.text_map.TextMap.put.Goals as goal

pub insert-requires : goal.insert-requires
insert-requires g c =
    omega (
      arith,
      below-le c.as_str.result.now c.as_slice.result.now,
      c.place-at.ensures,
      ap length (c.as_slice.ensures.pairs ∙ sym c.self.view_is),
    )

pub invariant_of-self : goal.invariant_of-self
invariant_of-self g c =
    Rising-put_in c.insert.result c.args.name _ c.args.value _ _ _ _ _ c.insert.ensures.ok c.insert.ensures.err
    c.place-at.ensures c.as_str.ensures
    (c.as_slice.ensures.pairs ∙ sym c.self.view_is) c.self.view_is c.self.invariant c.requires.absent

pub returns-clause-ok : goal.returns-clause-ok
returns-clause-ok g c =
    put_in c.insert.result c.args.name _ c.args.value _ _ _ _ _ c.insert.ensures.ok c.place-at.ensures c.as_str.ensures
    (c.as_slice.ensures.pairs ∙ sym c.self.view_is) c.self.view_is
