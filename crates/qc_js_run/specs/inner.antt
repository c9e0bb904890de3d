pub mod Induction
pub mod Stores
