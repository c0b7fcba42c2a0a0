-- What is known of the files of a set, and what is said of it.
pub mod Files
pub mod Saying
