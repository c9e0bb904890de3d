pub mod Encoded
pub mod Sound
