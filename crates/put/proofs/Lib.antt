-- Laws of writing that proofs cite, here and above.
pub mod Writing
pub mod Digits
