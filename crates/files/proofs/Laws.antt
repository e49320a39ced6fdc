-- Laws of the definitions. Nothing here needs to be believed: it is proved.
pub mod Moves
pub mod Blocks
pub mod Calls
pub mod Trips
pub mod Typing
pub mod Answered
pub mod Stays
