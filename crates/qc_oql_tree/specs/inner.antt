pub mod Pairings
