-- What is proved of the library's definitions.
pub mod Laws
