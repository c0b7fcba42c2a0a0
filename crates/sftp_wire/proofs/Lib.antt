-- Packets in a stream. Beside them each function of `src` has its own proof, at its module's path.
pub mod StreamLaws
