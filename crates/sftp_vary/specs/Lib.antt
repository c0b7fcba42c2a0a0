-- Words of public contracts.
pub mod Lines
