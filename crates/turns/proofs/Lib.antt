-- Laws that the proofs of this crate, and of those above, cite.
pub mod Lasting
pub mod Steps
pub mod Turns
