pub mod Answered
mod Bridge
mod Closings
pub mod FaultLaws
mod Forms
mod Kepts
mod Pairs
pub mod ReadBack
mod Samples
mod Shallows
mod Spans
mod Spellings
mod Told
pub mod Unique
mod Walking
