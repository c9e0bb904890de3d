pub mod Decoding
pub mod Encoding
pub mod Facts
pub mod HeldOperands
pub mod Kinds
pub mod Order
pub mod Outcome
