pub mod Stop
pub mod Decode
pub mod Reading
pub mod Balance
pub mod Orders
