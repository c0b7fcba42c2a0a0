pub mod Place
pub mod Table
