-- What is proved of grammars and of the table of NURL.
pub mod Laws
