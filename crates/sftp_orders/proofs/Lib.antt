-- What is read of names and of places.
pub mod Reading
