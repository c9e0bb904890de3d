mod Places
pub mod ScanLaws
pub mod QueryLaws
