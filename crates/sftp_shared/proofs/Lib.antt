pub mod Sharing
pub mod Leaving
