pub mod Imports
pub mod PathTexts
pub mod Table
pub mod Move
