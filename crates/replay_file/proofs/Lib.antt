pub mod Spoken
pub mod Gathered
pub mod Measured
pub mod Fine
pub mod Turning
pub mod Whole
pub mod Examples
pub mod Known
