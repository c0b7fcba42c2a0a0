pub mod TreeFile
pub mod TreeFileParts
pub mod Examples
pub mod Streamed
pub mod TwoOpenings
