pub mod Examples
pub mod Forms
pub mod Checks
pub mod Sections
pub mod Sound
pub mod Stretches
pub mod Refusals
pub mod Markets
