pub mod Columns
pub mod Kept
pub mod SelectRows
pub mod Scopes
pub mod Selected
pub mod SortKinds
