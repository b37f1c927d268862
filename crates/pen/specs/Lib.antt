pub mod Position
pub mod Reach
pub mod Pen
pub mod Paper
