pub mod Left
pub mod Marked
