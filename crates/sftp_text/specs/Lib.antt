-- Records and parts of tree files as lines of text, and back.
pub mod Formats
pub mod Digits
pub mod Fields
pub mod Lines
pub mod Trees
pub mod Texts
