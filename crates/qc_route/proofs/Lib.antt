pub mod Grown
pub mod Kept
pub mod Pieces
pub mod Walked
