pub mod Motion
pub mod Question
pub mod Sent
pub mod Ramp
