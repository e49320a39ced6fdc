pub mod Model
pub mod Run
pub mod Sheet
pub mod Second
pub mod Tight
pub mod Premise
