pub mod Keeping
pub mod Words
pub mod Shapes
pub mod Stored
pub mod Fields
