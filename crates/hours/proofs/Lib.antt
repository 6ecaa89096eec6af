-- Laws that the proofs of this crate cite.
pub mod Least
pub mod Replies
pub mod Pass
