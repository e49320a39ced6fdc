-- The proof of the theorem. Nothing here needs to be believed: it is proved.
pub mod Apart
pub mod Mixed
pub mod Keys
