-- Files of orders.
pub mod Orders
