pub mod Refusal
pub mod Choice
pub mod Tests
pub mod One
