pub mod Writing
pub mod Digits
pub mod Pieces
pub mod Sizes
pub mod Buffers
pub mod Printing
pub mod Examples
