-- What the desk program prints for a script.
pub mod Desk
pub mod Served
pub mod internal
