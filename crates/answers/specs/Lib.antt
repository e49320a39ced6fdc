pub mod Answer
pub mod Examples
