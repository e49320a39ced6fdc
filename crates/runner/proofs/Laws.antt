-- Laws of the definitions, for the proofs of functions. Nothing here needs to be believed: it is proved.
pub mod Run
pub mod Text
pub mod Lines
pub mod Feeding
pub mod Kept
