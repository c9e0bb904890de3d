pub mod inner
pub mod Rows
pub mod Classes
pub mod Types
pub mod Joins
pub mod Schemas
