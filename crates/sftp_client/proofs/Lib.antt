-- Lemmas by subject, each citing only those above it. Beside them each function of `src` has its own proof, at its
-- module's path.
pub mod Sessions
