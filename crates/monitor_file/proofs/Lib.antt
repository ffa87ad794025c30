mod RecordSteps
mod WholeRecords
mod BadRecords
pub mod Files
pub mod Looking
pub mod SpotParts
pub mod Spotted
pub mod Replayed
