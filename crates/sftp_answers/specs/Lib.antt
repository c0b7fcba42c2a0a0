pub mod Histories
pub mod Leaving
