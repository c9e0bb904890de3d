pub mod inner
pub mod Lexemes
pub mod Scanned
