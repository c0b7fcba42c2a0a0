pub mod Joint
pub mod Deeds
pub mod Orders
pub mod Translated
