pub mod Looking
pub mod Promises
pub mod Spots
