pub mod Inferences
