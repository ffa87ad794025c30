pub mod Pins
pub mod Asks
pub mod State
pub mod Perform
pub mod Answers
pub mod Promises
pub mod FramePromises
