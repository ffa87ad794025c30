pub mod Held
mod Limits
pub mod Limiting
pub mod Sizes
mod Telling
pub mod Answers
pub mod Terms
