pub mod Commands
pub mod Gathered
