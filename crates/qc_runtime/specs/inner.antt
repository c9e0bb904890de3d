pub mod Columns
pub mod Giving
