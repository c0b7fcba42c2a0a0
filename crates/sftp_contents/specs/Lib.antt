pub mod Bytes
pub mod Pieces
pub mod Parts
pub mod Kept
