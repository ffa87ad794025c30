pub mod Parts
pub mod Sizes
pub mod Words
pub mod Same
pub mod Bits
