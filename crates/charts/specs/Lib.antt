pub mod Meaning
pub mod Search
pub mod Refusals
pub mod MoveList
