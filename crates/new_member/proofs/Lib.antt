-- Laws that the proofs of this crate and of `new_table` cite.
pub mod Members
