pub mod Joint
pub mod Deeds
pub mod Ownership
pub mod Orders
pub mod Translated
pub mod TranslatedTurns
