pub mod Premise
pub mod Second
pub mod Sheet
pub mod Tight
