-- Words of public contracts.
pub mod Machine
pub mod Served
pub mod Left
pub mod Examples
-- Words of private contracts alone.
pub mod Queue
pub mod Sessions
pub mod Ending
