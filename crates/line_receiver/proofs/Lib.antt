pub mod Holding
pub mod Marked
pub mod Read
pub mod Only
pub mod Kept
pub mod Nulls
pub mod Numbers
pub mod Ending
