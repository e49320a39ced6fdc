pub mod Grammar
pub mod Examples
