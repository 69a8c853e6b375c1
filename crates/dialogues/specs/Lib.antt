pub mod Act
pub mod Chain
pub mod Checked
