pub mod Certificate
pub mod Derivations
pub mod Language
pub mod Machine
pub mod Turns
