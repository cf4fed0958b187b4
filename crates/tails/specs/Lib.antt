pub mod Losses
pub mod Ranking
pub mod Undiversified
pub mod InnerContracts
