-- Words of public contracts.
pub mod Bare
