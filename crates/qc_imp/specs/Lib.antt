pub mod inner
pub mod Meaning
pub mod WellFormed
pub mod Sizes
pub mod Laws
pub mod Spelling
