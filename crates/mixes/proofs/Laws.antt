-- The theorem on mixed runs, that every order is a mix, and their proofs. Nothing here needs to be believed: it is proved.
pub mod Apart
pub mod Logs
pub mod Every
