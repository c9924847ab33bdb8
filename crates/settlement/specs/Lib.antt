pub mod Settling
pub mod Passing
pub mod Sharing
pub mod Drawn
pub mod Sharers
