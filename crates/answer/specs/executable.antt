-- The answer for any source, computed. It is proved to meet the demands, and so need not be believed.
pub mod Answers
