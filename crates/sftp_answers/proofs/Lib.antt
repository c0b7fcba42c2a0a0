pub mod Asks
pub mod Answers
pub mod Closing
pub mod Histories
