pub mod Line
pub mod LineLaws
pub mod Paper
pub mod Route
pub mod WalkLaws
pub mod Words
