pub mod Induction
pub mod Logged
