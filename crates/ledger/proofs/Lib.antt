pub mod SittingLaws
