pub mod Calendar
pub mod Bounds
