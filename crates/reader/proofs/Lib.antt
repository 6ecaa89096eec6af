-- What the contents of a field are, at every position.
pub mod Handing
