pub mod Sets
pub mod Checks
pub mod Examples
