pub mod Laws
pub mod IdleWork
