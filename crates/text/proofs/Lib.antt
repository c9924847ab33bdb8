pub mod DecimalLaws
pub mod PlaceLaws
pub mod LineLaws
