pub mod Events
pub mod Alone
pub mod Along
pub mod Singly
pub mod Calls
pub mod Older
