pub mod Curves
pub mod Split
pub mod Positions
pub mod Mapping
pub mod Check
pub mod Order
pub mod Examples
pub mod InnerContracts
