pub mod Going
pub mod Sameness
pub mod RaisedFiles
