-- Which variables are free in a tree.
use Rattle.std.specs.Prelude.{◌≡◌, ℕ, ◌==◌, Bool, false, not, ◌&&◌, ◌||◌}
use Rattle.qc_nnrc.specs.declared.tree.Nnrc.{Nnrc}
use Rattle.qc_nnrc.specs.declared.tree.Nnrc.TheOpen.{Nnrc-F}
use Rattle.qc_nnrc.specs.declared.tree.Nnrc.TheFolds.{fold-Nnrc}

-- whether a variable v is free where a part binds x
abbrev pub free_under : ℕ → (ℕ → Bool) → ℕ → Bool
free_under x b v = not (x == v) && b v

-- whether a variable v is free in a form, by which are free in its parts
abbrev pub free : Nnrc-F (ℕ → Bool) → ℕ → Bool
free (Nnrc-F.Var x) v = x == v
free (Nnrc-F.Const d) v = false
free (Nnrc-F.Global name) v = false
free (Nnrc-F.Unary op a) v = a v
free (Nnrc-F.Binary op a b) v = a v || b v
free (Nnrc-F.Let x a b) v = a v || free_under x b v
free (Nnrc-F.For x a b) v = a v || free_under x b v
free (Nnrc-F.If a b c) v = a v || (b v || c v)
free (Nnrc-F.Either a x b y c) v = a v || (free_under x b v || free_under y c v)

-- whether a variable is free in a tree
abbrev pub free_in : ℕ → Nnrc → Bool
free_in v e = fold-Nnrc (ℕ → Bool) free e v

-- no variable is free in it
abbrev pub IsClosed : Nnrc → Type 0
IsClosed e = (v : ℕ) → free_in v e ≡ false
