pub mod Agreeing
pub mod MeaningForms
pub mod MeaningLaws
pub mod Pairings
pub mod Sizes
