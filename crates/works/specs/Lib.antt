pub mod State
pub mod Keys
pub mod Work
pub mod Idle
pub mod Facts
