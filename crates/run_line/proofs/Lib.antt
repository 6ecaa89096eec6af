-- Laws that the proofs of this crate cite.
pub mod Short
pub mod Sizes
pub mod Readable
