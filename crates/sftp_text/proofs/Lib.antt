-- Lemmas by subject, each citing those above it alone. Beside them each function of `src` has its own proof, at its
-- module's path.
pub mod ListLaws
pub mod FileLaws
pub mod TextLaws
pub mod Exact
pub mod Repeats
pub mod Numerals
pub mod Strings
pub mod Parts
pub mod Bodies
pub mod Written
pub mod Heads
pub mod TreeLines
pub mod Shows
pub mod Named
