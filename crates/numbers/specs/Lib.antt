pub mod Pieces
pub mod PieceLaws
pub mod Number
pub mod Paper
pub mod DigitLaws
pub mod NumberLaws
pub mod Written
pub mod Text
