-- What the reading of a line cites.
pub mod Reading
