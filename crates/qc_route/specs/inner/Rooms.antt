-- How large a stage may be for the walk that lies before it.
use Rattle.std.specs.Prelude.{ℕ, zero, suc, ◌*◌, ◌^◌, ◌≤◌, List, length}
use Rattle.qc_route.specs.declared.stage.Stage.{Stage}
use Rattle.qc_route.specs.declared.word.Word.{Word}
use Rattle.qc_route.specs.Stages.{AtMost}

-- so many nodes, made 32 times as many so many times
abbrev pub grown : ℕ → ℕ → ℕ
grown zero n = n
grown (suc k) n = 32 * grown k n

-- even if each edge makes it 32 times as large, no pass gets a tree of over 2^100 nodes
pub record HasRoom (stage : Stage) (words : List Word) : Type 0 where
  pub most : ℕ
  pub is_most : AtMost most stage
  pub fits : grown (length words) most ≤ 2 ^ 110
