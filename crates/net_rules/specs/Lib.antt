pub mod Record
pub mod Walk
pub mod Calls
pub mod Promises
