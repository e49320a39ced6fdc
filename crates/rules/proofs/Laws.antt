-- Laws of the definitions, for the proofs of functions and for the layers above. Nothing here needs to be believed: it is proved.
pub mod Numbers
pub mod Access
pub mod Tags
pub mod Tables
