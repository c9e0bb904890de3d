pub mod Beside
pub mod Columns
