pub mod Laws
pub mod Pasted
pub mod Every
pub mod First
pub mod Codec
pub mod Shape
pub mod Top
