-- What the exports' contracts cite besides the model.
pub mod TakeOver
