-- What the functions of this crate promise each other and the crates above. The promise of `nurl` does not depend on it.
pub mod Checks
pub mod Declarations
pub mod Declared
pub mod Entries
pub mod Pairs
pub mod Prepared
pub mod Scopes
