pub mod DirectoryLists
pub mod Permissions
pub mod Pieces
