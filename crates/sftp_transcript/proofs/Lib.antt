pub mod Imports
pub mod pairing
pub mod transcripts
pub mod Fronts
pub mod Begun
pub mod Reaching
pub mod Packets
