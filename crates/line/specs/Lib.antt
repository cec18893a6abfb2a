pub mod Machine
pub mod Tally
