pub mod Answered
pub mod Fits
pub mod Kept
pub mod Outcomes
pub mod Sizes
pub mod StatementForms
pub mod StepLaws
