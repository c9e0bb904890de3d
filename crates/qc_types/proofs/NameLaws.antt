-- User names, in data by their layers.
use Rattle.std.proofs.Common.{◌≡◌, Bool, sym, ap, ◌∙◌}
use Rattle.qc_data.specs.declared.data.Datum.{Datum, the_lemmas}
use Rattle.qc_data.specs.declared.data.Datum.TheViews.{out-Datum}
use Rattle.qc_data.specs.declared.data.Datum.TheFolds.{map-Datum, fold-roll-Datum}
use Rattle.qc_data.proofs.Layers.{roll-out}
use Rattle.qc_types.specs.Schemas.{user_named, user_step}

pub user_out : (d : Datum) → user_named d ≡ user_step (map-Datum Datum Bool user_named (out-Datum d))
user_out d = ap user_named (sym (roll-out d)) ∙ fold-roll-Datum Bool user_step (out-Datum d)

pub ruleset by_layer = (the_lemmas, user_out)
