pub mod Audits
pub mod Starts
