pub mod FrameTexts
pub mod Growing
