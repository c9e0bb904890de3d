-- A call that is to fail was listed.
use Rattle.std.proofs.Common.{inl, refl}
use Rattle.qc_io.proofs.shelf.MemShelfShelf.fetch.Goals as goal

pub returns-then-count_call-clause-refused : goal.returns-then-count_call-clause-refused
returns-then-count_call-clause-refused c =
    rw (← c.self.view_is) (λ _. inl (c.if-count_call.ensures.fails.0 refl), λ _. refl)
