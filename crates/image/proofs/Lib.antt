-- Laws that the proofs of this crate cite.
pub mod Loops
pub mod Whole
