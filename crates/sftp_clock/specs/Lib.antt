-- Words of private contracts.
pub mod Timed
