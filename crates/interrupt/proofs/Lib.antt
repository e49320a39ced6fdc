pub mod Laws
pub mod Sentence
