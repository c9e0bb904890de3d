pub mod inner
pub mod Paths
pub mod Stages
