pub mod BitRuns
pub mod Grids
pub mod Packs
