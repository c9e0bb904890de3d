pub mod inner
pub mod Reading
pub mod Table
pub mod TokenKinds
