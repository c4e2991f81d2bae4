-- What is proved of the answer.
pub mod Theorem
pub mod Laws
