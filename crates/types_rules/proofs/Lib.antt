pub mod Owed
pub mod Given
pub mod Laws
pub mod Kept
pub mod Promised
pub mod Numbering
pub mod Dispatch
pub mod Sampled
