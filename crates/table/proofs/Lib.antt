-- Laws that the proofs of this crate and of the crates above cite.
pub mod Members
pub mod WellFormed
pub mod Place
pub mod Tail
