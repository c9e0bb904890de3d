-- The names before the index are other names.
use Rattle.std.proofs.Common.{◌≡◌, drop}
use Rattle.qc_io.specs.MemShelf.{text_of}
use Rattle.qc_io.proofs.shelf.find_text.Given as goal

abbrev pub invariant-loop-named : goal.invariant-loop-named
invariant-loop-named l = text_of (drop l.named-index l.texts) l.name ≡ text_of l.texts l.name
