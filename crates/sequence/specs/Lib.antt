pub mod Wires
pub mod Walk
pub mod Facts
