-- Laws of works. Nothing here needs to be believed: it is proved.
pub mod Keys
pub mod Work
pub mod Op
pub mod Idle
pub mod Spares
pub mod Calls
