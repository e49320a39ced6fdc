pub mod Reading
pub mod Grammar
