-- Laws that the proofs of this crate cite.
pub mod Numbers
pub mod Parts
pub mod Splits
