pub mod Keeping
pub mod Growth
pub mod Laws
