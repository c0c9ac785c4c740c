pub mod Defaults
pub mod Depths
