pub mod Actions
pub mod Depths
pub mod LexemeTokens
pub mod Notes
pub mod Trees
pub mod Values
