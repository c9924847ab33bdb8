pub mod FoundTickets
pub mod SellLaws
pub mod ExpireLaws
