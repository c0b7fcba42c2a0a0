pub mod LimitsKept
pub mod HollowFiles
pub mod HollowTrees
pub mod HollowSteps
pub mod HollowRuns
