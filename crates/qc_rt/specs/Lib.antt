pub mod Table
pub mod Seen
pub mod JsonKinds
pub mod Parameters
pub mod Runtime
pub mod Laws
