pub mod Numeral
pub mod NumeralSteps
pub mod OneWay
pub mod Output
pub mod Paper
pub mod PartsText
