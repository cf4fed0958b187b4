pub mod Handing
pub mod HandingFlows
