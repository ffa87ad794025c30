pub mod Events
pub mod Calls
pub mod Older
