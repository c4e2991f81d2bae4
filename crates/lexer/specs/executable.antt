-- The scan, which computes the tokens of a source. It is proved to meet what is said of them, and so need not be believed.
pub mod Scans
