pub mod Laws
pub mod Theorem
