-- Sessions of a set, read from their files.
pub mod Sessions
pub mod Collecting
