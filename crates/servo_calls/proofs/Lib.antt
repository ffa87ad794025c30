pub mod Telling
pub mod Stepping
