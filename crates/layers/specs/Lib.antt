pub mod Hide
pub mod Quiet
pub mod Sheet
pub mod Made
