pub mod Imports
pub mod Queues
pub mod ReadyLaws
pub mod Machines
pub mod Sessions
pub mod ScriptLaws
pub mod Worked
