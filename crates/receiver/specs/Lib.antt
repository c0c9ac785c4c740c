pub mod Filling
pub mod Opening
pub mod Histories
