pub mod inner
pub mod Held
pub mod Layout
pub mod Meaning
pub mod Spelling
pub mod Tokens
pub mod WellFormed
