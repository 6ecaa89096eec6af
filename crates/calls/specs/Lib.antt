-- The calls of the code as those of the model.
pub mod Calls
pub mod Examples
