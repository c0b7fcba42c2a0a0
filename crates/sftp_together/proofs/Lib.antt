pub mod Orders
pub mod Refuting
pub mod Alone
pub mod Worked
