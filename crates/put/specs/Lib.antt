-- What the contracts of a function that writes cite.
pub mod Wrote
