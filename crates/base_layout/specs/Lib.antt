pub mod Bytes
pub mod Every
pub mod First
pub mod Codec
