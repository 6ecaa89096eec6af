-- Laws that the proofs of this crate cite.
pub mod Strings
pub mod Words
pub mod Digits
