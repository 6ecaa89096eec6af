-- What the contracts of this crate cite besides the model.
pub mod FormedWords
pub mod Rank
pub mod Located
pub mod Tests
