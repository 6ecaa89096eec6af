-- What the reading of a part cites.
pub mod Part
