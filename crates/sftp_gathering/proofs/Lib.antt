-- What is gathered of sessions' files, and what is said of them.
pub mod Members
pub mod Names
