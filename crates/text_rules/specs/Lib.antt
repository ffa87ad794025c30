pub mod Text
pub mod Records
pub mod Export
pub mod Fold
pub mod Import
pub mod Promises
