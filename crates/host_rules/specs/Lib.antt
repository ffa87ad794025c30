pub mod Refusals
pub mod Writing
pub mod Reading
pub mod Promises
