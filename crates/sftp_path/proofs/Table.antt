-- Tables: what each operation does to keys, values, counts and tests.
pub mod Laws
pub mod Entries
