pub mod State
pub mod Range
pub mod Wires
pub mod Access
pub mod Step
pub mod Facts
pub mod Unanswered
