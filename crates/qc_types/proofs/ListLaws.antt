-- The classes that a type names, by its layers.
use Rattle.std.proofs.Common.{◌≡◌, Bool, sym, ap, ◌∙◌}
use Rattle.qc_types.specs.declared.ty.Ty.{Ty, the_lemmas}
use Rattle.qc_types.specs.declared.ty.Ty.TheViews.{out-Ty}
use Rattle.qc_types.specs.declared.ty.Ty.TheFolds.{map-Ty, fold-roll-Ty}
use Rattle.qc_types.specs.Classes.{Defs}
use Rattle.qc_types.specs.Schemas.{lists, lists_step}
use Rattle.qc_types.proofs.Inductions.{roll-out-Ty}

pub lists_out : (c : Defs) (t : Ty) → lists c t ≡ lists_step c (map-Ty Ty Bool (lists c) (out-Ty t))
lists_out c t = ap (lists c) (sym (roll-out-Ty t)) ∙ fold-roll-Ty Bool (lists_step c) (out-Ty t)

pub ruleset by_layer = (the_lemmas, lists_out)
