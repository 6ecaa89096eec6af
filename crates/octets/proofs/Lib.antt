-- Laws that the proofs of this crate and of the crates above it cite.
pub mod Numbers
pub mod Placed
