-- What the readers look up in the grammar, and its names as constants. The promise of `nurl` does not depend on it.
pub mod Alternatives
pub mod Classes
pub mod Forms
pub mod Nonterminals
pub mod Productions
