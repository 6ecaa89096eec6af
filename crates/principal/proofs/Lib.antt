-- Laws that the proofs of this crate cite.
pub mod Reaches
pub mod Pairs
