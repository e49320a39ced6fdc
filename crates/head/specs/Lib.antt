pub mod State
pub mod Head
pub mod Access
pub mod Range
