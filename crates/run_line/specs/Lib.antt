-- What the contract of a line's call cites.
pub mod Named
