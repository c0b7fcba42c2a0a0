-- Where a request waits, what is kept of events, and what is read of files.
pub mod Places
pub mod Holding
pub mod Timing
