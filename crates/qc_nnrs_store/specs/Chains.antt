-- The variables that chains of bindings bind.
use Rattle.std.specs.Prelude.{[], ◌∷◌, Option, Some, None}
use Rattle.std.specs.Option.{option_copied}
use Rattle.qc_nnrs_store.specs.declared.chain.Chain.{Chain}
use Rattle.qc_nnrs_store.specs.declared.chain.Chain.TheVariants as chain
use Rattle.qc_nnrs_store.specs.Variables.{Class, Reads, Sets, Pushes, Frame}

-- the variables of a chain, the newest first
abbrev pub frame_of : Chain → Frame
frame_of chain.Empty = []
frame_of (chain.Reads' x value p outer) = (x, Reads (option_copied value)) ∷ frame_of outer
frame_of (chain.Sets' x p outer) = (x, Sets) ∷ frame_of outer
frame_of (chain.Pushes' x p outer) = (x, Pushes) ∷ frame_of outer

-- the class of the newest variable
abbrev pub newest_class : Chain → Option Class
newest_class chain.Empty = None
newest_class (chain.Reads' x value p outer) = Some (Reads (option_copied value))
newest_class (chain.Sets' x p outer) = Some Sets
newest_class (chain.Pushes' x p outer) = Some Pushes
