pub mod KnownDays
pub mod DateLaws
pub mod DateOrder
pub mod LeapDays
pub mod YearOn
pub mod CalendarLaws
