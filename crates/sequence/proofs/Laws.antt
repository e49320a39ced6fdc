-- Laws of the definitions, for the proofs of functions. Nothing here needs to be believed: it is proved.
pub mod Wires
pub mod Meeting
pub mod Storing
