-- What holds of every JSON tree that code holds, though not of every tree that clauses can speak of.
use Rattle.std.specs.Prelude.{◌^◌, ℤ, pos, negsuc, Bool, true, ◌&&◌, nat_lt}
use Rattle.qc_data.specs.Facts.{all_true, all_values, rise}
use Rattle.qc_data.specs.declared.data.Json.{Json}
use Rattle.qc_data.specs.declared.data.Json.TheOpen.{Json-F}
use Rattle.qc_data.specs.declared.data.Json.TheFolds.{fold-Json}

-- the integer has 64 bits
abbrev pub fits64 : ℤ → Bool
fits64 (pos n) = nat_lt n (2 ^ 63)
fits64 (negsuc n) = nat_lt n (2 ^ 63)

-- one layer, given the same of its parts
abbrev pub sound_step : Json-F Bool → Bool
sound_step (Json-F.Int n) = fits64 n
sound_step (Json-F.Array bs) = all_true bs
sound_step (Json-F.Object ps) = rise ps && all_values ps
sound_step x = true

-- its integers have 64 bits, and the names of its objects rise
abbrev pub sound : Json → Bool
sound = fold-Json Bool sound_step
