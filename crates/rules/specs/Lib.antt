pub mod Numbers
pub mod Registers
pub mod Parts
pub mod Tables
pub mod Access
pub mod Tags
pub mod Printed
pub mod Facts
