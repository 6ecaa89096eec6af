-- What the writing of a line cites.
pub mod Words
