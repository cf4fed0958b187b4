pub mod Words
pub mod ExposuresRoom
pub mod ReturnsRoom
pub mod ReadPasses
pub mod Bounds
