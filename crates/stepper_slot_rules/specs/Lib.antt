pub mod Slot
pub mod Parts
pub mod Promises
