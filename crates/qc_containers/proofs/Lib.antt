pub mod Appending
pub mod Halves
pub mod Putting
pub mod Truth
