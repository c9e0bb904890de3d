pub mod inner
pub mod Class
pub mod Pieces
pub mod Scanned
pub mod Tokens
pub mod Words
