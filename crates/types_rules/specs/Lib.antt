pub mod Table
pub mod Types
pub mod Promises
pub mod Numbering
