pub mod Imports
pub mod MarkedItems
pub mod FirstNames
