-- The list of extra type names, and the type names of a source.
pub mod NameList
pub mod TypeNames
pub mod internal
