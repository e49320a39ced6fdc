pub mod Keys
pub mod Statement
pub mod Tasks
