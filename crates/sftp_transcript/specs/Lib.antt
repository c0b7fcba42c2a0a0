pub mod Transcript
pub mod Explained
pub mod Examples
pub mod Log
pub mod Recorded
pub mod Sound
pub mod Packets
