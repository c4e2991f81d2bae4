-- What a reader gives, what is demanded of it, and the examples of document 01.
pub mod Results
pub mod Demands
pub mod Examples
pub mod executable
