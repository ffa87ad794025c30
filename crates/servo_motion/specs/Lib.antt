pub mod Trapezoid
pub mod Setpoint
pub mod Velocity
pub mod Profile
pub mod Promises
pub mod Quick
