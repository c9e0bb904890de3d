mod Converted
mod Described
mod Named
mod Returning
mod Sending
pub mod TreeLayers
mod Valued
