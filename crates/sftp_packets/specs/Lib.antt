pub mod Spelling
pub mod Reading
pub mod Requests
pub mod Packets
pub mod Layouts
