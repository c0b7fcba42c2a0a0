pub mod Imports
pub mod Texts
pub mod Order
