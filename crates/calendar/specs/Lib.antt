pub mod Months
pub mod Dates
pub mod InnerContracts
