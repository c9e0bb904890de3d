pub mod JobLaws
pub mod Lines
pub mod RanLemmas
pub mod StageLemmas
pub mod StepLaws
pub mod WordLemmas
