pub mod Lines
pub mod Typing
pub mod Commands
