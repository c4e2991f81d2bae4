-- What the functions of this crate promise each other and the crates above, and the kinds as constants. The promise of `nurl` does not depend on it.
pub mod ByteNumbers
pub mod Class
pub mod CodeLexemes
pub mod Editions
pub mod Entries
pub mod Kinds
pub mod KindNumbers
pub mod Leaves
pub mod Packed
pub mod RefusalNumbers
pub mod TokenRows
pub mod Tokenized
pub mod Rows
