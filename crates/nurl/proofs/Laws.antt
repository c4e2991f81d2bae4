-- Laws of what comes of a source's tokens, of the numbers of an answer, and of texts in a lent output.
pub mod Results
pub mod Rows
pub mod Numbers
pub mod Texts
