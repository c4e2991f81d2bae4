-- Laws of what is read, and of how long a reply is.
pub mod Calls
pub mod Served
pub mod Sizes
