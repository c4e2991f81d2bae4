-- Laws of the name list and of the type names that belong to no one function of the code.
pub mod Entries
pub mod Compared
pub mod Declared
pub mod Named
pub mod Slots
pub mod Prepared
pub mod Marked
