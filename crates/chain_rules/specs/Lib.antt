pub mod Chain
pub mod Promises
