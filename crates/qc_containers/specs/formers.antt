pub mod boxed
pub mod list
pub mod name_map
pub mod shared_list
pub mod text_map
