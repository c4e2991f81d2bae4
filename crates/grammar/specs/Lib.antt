-- Grammars as data, their derivations and the leftmost reading; the table of NURL.
pub mod Grammars
pub mod Rows
pub mod Derivations
pub mod Reaches
pub mod Forests
pub mod Nonterminals
pub mod Classes
pub mod Questions
pub mod Nurl
pub mod Languages
pub mod Sources
pub mod executable
pub mod internal
