pub mod CanonLaws
mod Decoded
pub mod DecodingLaws
mod Depths
pub mod Encoded
pub mod FactLaws
pub mod HeldLaws
pub mod Induction
pub mod Inverses
pub mod KindLaws
pub mod Layers
pub mod OrderLaws
pub mod Outcomes
pub mod Returning
pub mod Risen
pub mod SameLaws
mod Shorter
pub mod SortLaws
pub mod Sorting
pub mod Ties
pub mod Total
