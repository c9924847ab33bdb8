pub mod Bytes
pub mod Bounds
