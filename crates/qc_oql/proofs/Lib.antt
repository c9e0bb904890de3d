pub mod QueryLaws
