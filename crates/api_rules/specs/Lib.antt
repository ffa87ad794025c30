pub mod Table
pub mod Calls
pub mod Promises
pub mod TablePromises
pub mod TextPromises
