-- Lemmas by subject, each folder citing those above it alone. Beside them each function of `src` has its own proof, at
-- its module's path.
pub mod Readers
pub mod FieldLaws
pub mod PacketLaws
pub mod LayoutLaws
