pub mod Announced
pub mod Frames
pub mod Meaning
pub mod Numbers
