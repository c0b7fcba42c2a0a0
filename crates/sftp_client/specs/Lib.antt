pub mod Announced
pub mod Client
pub mod Runs
pub mod Examples
