-- Worked examples of the definitions.
pub mod Examples
