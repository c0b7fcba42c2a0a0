-- Files of times.
pub mod Times
