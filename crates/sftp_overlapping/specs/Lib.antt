-- What is said of a set of sessions.
pub mod Sets
