pub mod Root
pub mod School
