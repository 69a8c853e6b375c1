pub mod Paths
pub mod Walk
