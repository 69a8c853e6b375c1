pub mod Faults
pub mod Listed
pub mod Meanings
pub mod Places
