pub mod Branches
pub mod PartTypes
pub mod ConstantTypes
pub mod OperatorTexts
pub mod Infers
