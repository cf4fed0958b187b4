pub mod Returns
pub mod Volatility
pub mod Scaled
pub mod Check
pub mod VolatilityRoots
pub mod Buffer
pub mod Examples
pub mod InnerContracts
