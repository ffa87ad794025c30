pub mod Carried
pub mod Asks
pub mod State
pub mod Ramp
pub mod Perform
pub mod Answers
pub mod RampPromises
pub mod FramePromises
