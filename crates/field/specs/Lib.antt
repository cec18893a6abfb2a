pub mod Digits
pub mod Streaming
pub mod Months
pub mod Ruled
pub mod BareCases
