pub mod Numbering
pub mod StatementTrees
