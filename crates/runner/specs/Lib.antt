pub mod Run
pub mod Text
pub mod Lines
pub mod Feeding
