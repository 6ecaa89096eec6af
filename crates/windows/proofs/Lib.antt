-- Laws that the proofs of this crate cite, and those of hours and settle.
pub mod Distance
pub mod Words
pub mod Zeros
pub mod Minutes
