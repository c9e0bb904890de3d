pub mod FormTypes
pub mod Typing
