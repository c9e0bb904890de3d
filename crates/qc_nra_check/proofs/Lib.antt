pub mod FormsSound
pub mod Sound
