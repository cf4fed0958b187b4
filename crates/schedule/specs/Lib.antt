pub mod Terms
pub mod Flows
pub mod Check
pub mod Drawn
pub mod Exactly
pub mod Examples
pub mod InnerContracts
