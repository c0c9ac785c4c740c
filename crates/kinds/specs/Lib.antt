pub mod Packing
pub mod Families
pub mod Laws
