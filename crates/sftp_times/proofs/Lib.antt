-- What is read of entries.
pub mod Reading
