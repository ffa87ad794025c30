pub mod Touching
pub mod Replies
pub mod Bytes
pub mod Along
pub mod Timing
pub mod Taking
pub mod FewReplies
