-- Laws of the answer, and examples of it.
pub mod Readable
pub mod Answers
pub mod Examples
pub mod WrongReaders
