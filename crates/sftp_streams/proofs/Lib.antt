pub mod Imports
pub mod Buffers
