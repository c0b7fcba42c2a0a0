pub mod Verdicts
pub mod Umasks
pub mod Files
