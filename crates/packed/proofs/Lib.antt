pub mod Linking
pub mod Makings
pub mod Runs
pub mod Samples
pub mod Scans
pub mod Tables
pub mod Windows
