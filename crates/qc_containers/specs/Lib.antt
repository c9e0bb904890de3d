pub mod formers
pub mod inner
pub mod Name
pub mod Pairs
pub mod Rising
pub mod Sharing
