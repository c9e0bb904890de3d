pub mod inner
pub mod Inputs
pub mod JsonReading
pub mod SchemaFile
pub mod TypeText
pub mod TypeForms
pub mod Writing
