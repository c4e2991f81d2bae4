-- The parser promises only what `nurl` needs of it.
pub mod internal
