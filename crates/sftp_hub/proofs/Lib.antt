pub mod Absence
pub mod Accounting
pub mod Tables
pub mod TwoClients
