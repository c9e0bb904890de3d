pub mod Adding
pub mod Good
pub mod Steps
pub mod Text
