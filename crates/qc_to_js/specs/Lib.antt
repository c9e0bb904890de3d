pub mod inner
pub mod Answering
