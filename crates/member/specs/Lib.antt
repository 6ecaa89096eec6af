-- How contracts see a record of the code.
pub mod View
