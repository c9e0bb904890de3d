pub mod Evaluated
pub mod Refusing
pub mod Right
