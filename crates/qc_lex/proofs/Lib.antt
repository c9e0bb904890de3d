mod Begun
mod Contents
mod Known
mod Laws
pub mod Lexemes
pub mod Quoting
pub mod Reached
mod Valid
mod Values
