pub mod Gathering
pub mod Giving
pub mod Twins
pub mod inner
