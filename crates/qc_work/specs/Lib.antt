pub mod Causes
pub mod Promises
pub mod Reading
pub mod Refusals
pub mod Right
pub mod Sources
pub mod Texts
pub mod Work
