pub mod Numbers
pub mod Coefficients
pub mod Dates
pub mod Months
pub mod Passing
pub mod Drawing
pub mod Exactly
pub mod Examples
