pub mod inner
pub mod Patterns
