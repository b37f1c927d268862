pub mod Paper
pub mod Room
pub mod RouteText
pub mod TextSteps
