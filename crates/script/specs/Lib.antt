-- Document 01, "The rehearsal program": what a session is.
pub mod Lines
pub mod Text
pub mod Session
pub mod Examples
