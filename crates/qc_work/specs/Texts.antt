-- The bytes of the texts that actions give.
use Rattle.std.specs.Prelude.{ℕ, List}
use Rattle.std.specs.String.{string_bytes}
use Rattle.qc_js.specs.Layout.{layout}
use Rattle.qc_work.specs.declared.actions.Text.{Text}
use Rattle.qc_work.specs.declared.actions.Text.TheVariants.{Line, Program}

-- a line's own bytes, or the layout of a program
abbrev pub bytes_of : Text → List ℕ
bytes_of (Line text) = string_bytes text
bytes_of (Program program) = layout program
