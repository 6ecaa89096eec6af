-- What is proved of the answers of each kind.
pub mod OneToOne
pub mod Judged
