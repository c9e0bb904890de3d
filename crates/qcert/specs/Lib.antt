pub mod Delivery
pub mod Files
pub mod Jobs
pub mod Ran
pub mod Fetching
pub mod Steps
pub mod inner
