pub mod Added
pub mod Induction
