pub mod Truth
pub mod Hiding
pub mod Sheets
pub mod Quieting
