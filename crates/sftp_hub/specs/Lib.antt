pub mod Accounts
pub mod Clients
pub mod Examples
pub mod Ids
pub mod Promised
