-- The proof of the theorems. Nothing here needs to be believed: it is proved.
pub mod Chosen
pub mod Masks
pub mod Parts
