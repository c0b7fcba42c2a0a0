-- Sets of sessions as files.
pub mod Files
pub mod Gathered
