pub mod Strings
pub mod Hexadecimal
