pub mod inner
pub mod Forms
pub mod Meaning
pub mod Sizes
pub mod Laws
pub mod Spelling
