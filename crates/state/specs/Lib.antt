pub mod Answers
pub mod Ranges
pub mod Piece
pub mod Calls
