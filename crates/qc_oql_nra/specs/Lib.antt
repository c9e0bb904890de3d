pub mod OqlForms
pub mod OqlTrees
pub mod HasNames
