pub mod inner
pub mod Variables
pub mod Chains
pub mod Logs
