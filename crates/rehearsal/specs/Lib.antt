-- What a session's contract cites.
pub mod Outcomes
