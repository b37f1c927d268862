pub mod Tags
pub mod Unique
pub mod Figures
pub mod LineLaws
pub mod Promises
pub mod ReadsLaws
pub mod RouteLaws
pub mod WalkLaws
