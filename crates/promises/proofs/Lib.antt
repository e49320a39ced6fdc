pub mod Rules
pub mod Sequence
pub mod Head
pub mod Part
