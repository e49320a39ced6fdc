pub mod Map
pub mod Keys
pub mod Answer
pub mod Facts
