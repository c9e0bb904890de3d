pub mod inner
pub mod Variables
pub mod Meaning
pub mod Free
pub mod Sizes
pub mod Laws
pub mod Spelling
