mod Nodes
mod Scanned
mod Sizes
