-- What is proved of the tree table.
pub mod Laws
