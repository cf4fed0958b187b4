pub mod Numbers
pub mod Coefficients
pub mod Check
pub mod Drawn
pub mod Exactly
pub mod Examples
pub mod InnerContracts
