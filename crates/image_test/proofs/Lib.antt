-- Laws that the proofs of this crate and of `image` cite.
pub mod Tests
pub mod IsImage
