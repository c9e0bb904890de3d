pub mod ConstantsSound
pub mod DatumTypes
pub mod FormLaws
pub mod PartsSound
