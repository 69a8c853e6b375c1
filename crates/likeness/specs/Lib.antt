pub mod Bisimulation
pub mod Levels
pub mod Formula
pub mod Attack
pub mod Sheet
pub mod Reading
pub mod Refusals
pub mod Settle
