pub mod Starting
pub mod Motion
pub mod Question
mod Sending
pub mod Sent
mod CalmTick
pub mod Ramping
