pub mod Current
pub mod Going
pub mod Init
pub mod Twin
