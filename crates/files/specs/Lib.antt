pub mod File
pub mod Work
pub mod Deeds
pub mod Facts
pub mod Typed
pub mod Statement
pub mod Laws
