pub mod Coding
pub mod Places
pub mod Shared
