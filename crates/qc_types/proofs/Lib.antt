mod RisenRows
pub mod RowLaws
pub mod Inductions
pub mod TypeLaws
pub mod JoinLaws
pub mod Above
mod Fitting
mod Halves
pub mod JoinKinds
mod NameLaws
mod ListLaws
pub mod PutLaws
mod Places
mod Paths
mod Jumps
mod Indexing
pub mod ClassLaws
pub mod WorldLaws
