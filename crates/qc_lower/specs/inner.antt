pub mod AlgebraTrees
