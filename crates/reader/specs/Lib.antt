-- What the contracts of this crate cite besides the model, and what that means for the bytes of an image.
pub mod Read
pub mod Contents
