pub mod Checks
pub mod Columns
pub mod Frames
pub mod Places
pub mod Puts
pub mod Rows
