-- Laws of the definitions. Nothing here needs to be believed: it is proved.
pub mod File
pub mod Kept
