-- What a sink in memory holds.
use Rattle.std.specs.Prelude.{ℕ, ◌+◌, ◌-◌, ◌<◌, List, [], length, take}
use Rattle.qc_io.specs.Calls.{CallsState, no_calls}

-- the bytes written so far, how many there may be, and the calls of `put`
pub record SinkState : Type 0 where
  pub bytes : List ℕ
  pub room : ℕ
  pub calls : CallsState

-- no byte in that room, and no call
abbrev pub no_bytes : ℕ → SinkState
no_bytes room = record { bytes = []; room = room; calls = no_calls }

-- the room is too small for the piece
abbrev pub IsOverfull : SinkState → List ℕ → Type 0
IsOverfull sink piece = sink.room < length sink.bytes + length piece

-- the front of the piece that fits
abbrev pub what_fits : SinkState → List ℕ → List ℕ
what_fits sink piece = take (sink.room - length sink.bytes) piece
