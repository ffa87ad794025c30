mod Types
mod Reading
mod Alike
pub mod Calls
pub mod Motion
pub mod Making
pub mod Placing
pub mod InTime
pub mod Since
pub mod EachCall
pub mod Arming
pub mod TimeSteps
pub mod Stepping
mod SendingOn
mod Sending
pub mod Sent
pub mod SettingOut
pub mod EveryCall
pub mod Question
pub mod Order
pub mod OnTheLine
pub mod ServoQuestion
pub mod Buffers
pub mod Dipping
pub mod HomingRun
mod CutTicks
pub mod Winding
mod Histories
pub mod Alive
pub mod Sheet
pub mod Racing
pub mod Arriving
pub mod Reaching
pub mod Mirroring
pub mod OnTheWay
pub mod Meaning
pub mod Examples
pub mod Dips
mod Computing
pub mod TimeExample
pub mod QuickestExamples
pub mod MoveExample
pub mod Numbering
pub mod CauseRows
