pub mod Lists
pub mod Ways
pub mod Kinds
pub mod Price
pub mod Checks
pub mod Bounds
pub mod Passes
pub mod Noting
