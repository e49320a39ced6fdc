pub mod State
pub mod Registers
pub mod Step
pub mod Facts
pub mod Quiet
