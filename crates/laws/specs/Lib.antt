pub mod Cases
pub mod Lists
pub mod Sets
pub mod Windows
pub mod Ascii
