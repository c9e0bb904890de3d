pub mod Calls
pub mod Device
pub mod MemShelf
pub mod MemSink
