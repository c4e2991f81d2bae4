-- What the readers promise each other and `nurl`. The promise of `nurl` does not depend on it.
pub mod Operators
pub mod Presence
pub mod Readers
pub mod Readings
pub mod Steps
pub mod Words
