pub mod Handed
pub mod HandedFlows
pub mod HandedLinkers
pub mod Version
