pub mod Actions
pub mod Table
pub mod Values
pub mod inner
