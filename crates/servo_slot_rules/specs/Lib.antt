pub mod List
pub mod Slot
pub mod Parts
pub mod Promises
