pub mod Putting
pub mod Over
pub mod Replaced
pub mod Owed
pub mod Within
pub mod Listed
