-- Laws of the definitions. Nothing here needs to be believed: it is proved.
pub mod Lines
pub mod Typing
pub mod Commands
