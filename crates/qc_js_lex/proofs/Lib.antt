pub mod Answered
mod Progress
mod Runs
pub mod StopLaws
pub mod Valid
pub mod Variables
