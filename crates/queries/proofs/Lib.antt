pub mod TillLaws
pub mod ListOrder
pub mod ListingLaws
