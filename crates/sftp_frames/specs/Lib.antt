pub mod Frames
pub mod Fronts
pub mod Writing
