-- What the library promises beside the answer's definition in `answer`: the text of an answer.
pub mod Texts
pub mod internal
