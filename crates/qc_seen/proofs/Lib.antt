pub mod Gathered
pub mod KeptItems
pub mod Plain
pub mod TwinForms
pub mod TwinLaws
pub mod TwinObjects
