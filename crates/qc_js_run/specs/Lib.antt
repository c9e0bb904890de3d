pub mod inner
pub mod Language
