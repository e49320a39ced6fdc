pub mod Wire
pub mod Deeds
pub mod Statement
