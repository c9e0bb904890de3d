pub mod AlgebraAnswered
pub mod AlgebraKept
pub mod AlgebraSizes
pub mod FlatLoops
