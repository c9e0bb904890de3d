pub mod Adding
pub mod Mapped
