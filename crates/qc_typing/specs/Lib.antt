pub mod Kinds
pub mod FieldTypes
pub mod Tables
pub mod Typed
pub mod Checking
