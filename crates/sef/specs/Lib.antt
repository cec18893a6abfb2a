pub mod Promises
pub mod Demands
