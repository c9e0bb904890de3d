pub mod Plain
pub mod Writes
