-- The leftmost reading, which computes what the derivations say. It is proved to meet that, and so need not be believed.
pub mod First
pub mod Reading
pub mod ReadTokens
