pub mod Asks
pub mod Blend
pub mod Bits
pub mod Apart
pub mod Cause
pub mod Shown
pub mod Frames
