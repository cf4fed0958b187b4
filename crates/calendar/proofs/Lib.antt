pub mod FirstDays
pub mod DayNumbers
