pub mod Coherent
pub mod Laws
