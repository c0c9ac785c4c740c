pub mod Decimal
pub mod Folds
pub mod Order
pub mod Pieces
pub mod Steps
